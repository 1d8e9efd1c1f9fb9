-- What is read is the first 4,097 bytes of the input, and all output depends only on these.
use Rattle.std.proofs.Common.{◌≡◌, ℕ, List, take, Option, Some, None, Result, Ok, Err, IfSome, OnOk, ap, ◌∙◌, subst}
use Rattle.std.specs.Io.KnownBytes.{Appends}
use Rattle.app_levels.specs.Printed.{printed}
use Rattle.app_levels.proofs.Printed.{printed_front}
use Rattle.app_levels.proofs.run.Goals as goal

whole_input : {A E : Type 0} (r : Result A E) (known old new : Option (List ℕ)) (front : List ℕ)
    → IfSome known (λ xs. front ≡ take 4097 xs) → OnOk r (Appends old new (printed front))
    → OnOk r (IfSome known (λ xs. Appends old new (printed xs)))
whole_input (Ok x) (Some xs) old new front e h = subst (Appends old new) (ap printed e ∙ printed_front xs) h
whole_input (Ok x) None old new front e h = tt
whole_input (Err x) known old new front e h = tt

pub returns : goal.returns
returns g c =
    let old = g.W.Write.contents c.args.output.now in
    let new = g.W.Write.contents c.answer.new.output in
    whole_input c.answer.result (g.R.Read.remaining c.args.input.now) old new _ c.in_ok-count.ensures.value c.answer.ensures
