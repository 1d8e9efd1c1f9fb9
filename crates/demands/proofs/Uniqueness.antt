-- At most one result satisfies each promise: one law per answer type (AnswerInverses), applied to what each call promises.
--   itself: a promise that names the result itself
--   uniqueness: the whole statement
-- Assumes nothing.
use mathlib.Core.Path.{sym, ◌∙◌}
use Rattle.row.specs.Answer.{number_of}
use Rattle.text.specs.Text.{text_words, read_answer}
use Rattle.one_tree.specs.OneTree.{one_tree_answer}
use Rattle.mmt_build.specs.Build.{built_nodes, build_answer}
use Rattle.mmt_build.specs.Check.{as_built_answer}
use Rattle.list_struct.specs.Listing.{created, stepped}
use Rattle.list_slice.specs.WholeListing.{count_of, left_of}
use Rattle.bp_spec.specs.Questions.{promised}
use Rattle.demands.specs.Uniqueness.{Itself, Uniqueness}
use Rattle.demands.proofs.AnswerInverses.{one_found, one_told, one_built, one_read, one_made, one_step}

itself : {A : Type 0} (d : A) → Itself d
itself d a b e f = e ∙ sym f

pub uniqueness : Uniqueness
uniqueness = record {
  found = λ ws n s B q. one_found (promised ws n s B q);
  told = λ ws n s B q. one_told (promised ws n s B q);
  one_tree = λ ws n. one_told (one_tree_answer ws n);
  as_built = λ ws n s B. one_told (as_built_answer ws n s B);
  build = λ ws n s B. one_built (build_answer ws n s B);
  build_left = λ ws n s B. itself (built_nodes ws n s B);
  read = λ text ws. one_read (read_answer text ws);
  read_left = λ text ws. itself (text_words text ws);
  made_listing = λ rising ws n s B v. one_made (created rising ws n s B v);
  step = λ l. one_step (stepped l);
  list = λ rising ws n s B v c. one_read (count_of rising ws n s B v c);
  list_left = λ rising ws n s B v out. itself (left_of rising ws n s B v out);
  number = λ k. itself (number_of k);
}
