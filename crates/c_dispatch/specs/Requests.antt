-- SCOPE, The C functions: the answer to a request over words and node numbers.
-- Assumes nothing.
use Rattle.std.specs.Prelude.{List, ℕ, ℤ}
use Rattle.row.specs.Answer.{Answer}
use Rattle.one_tree.specs.OneTree.{one_tree_answer}
use Rattle.mmt_build.specs.Check.{as_built_answer}
use Rattle.bp_spec.specs.Questions.{promised}
use Rattle.c_dispatch.specs.declared.request.Request.{Request}
use Rattle.c_dispatch.specs.declared.request.Request.TheVariants.{Call, OneTree, AsBuilt}

-- A call answers what it promises, and so do the one-tree test and the as-built test.
abbrev pub requested : List ℕ → ℕ → List ℤ → ℕ → Request → Answer
requested ws n s B (Call q) = promised ws n s B q
requested ws n s B OneTree = one_tree_answer ws n
requested ws n s B AsBuilt = as_built_answer ws n s B
