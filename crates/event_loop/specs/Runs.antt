-- A desk's answers to a list of events: the promise of `answer_events` cites it. This project's own.
use Rattle.std.specs.Prelude.{◌≡◌, List, [], ◌∷◌}
use Rattle.ca_model.specs.declared.event.Event.{Event}
use Rattle.ca_model.specs.declared.reply.Reply.{Reply}

-- from old, the events may get these replies, one after another, and lead to new
abbrev pub Runs : {M : Type 0} → (M → Event → Reply → M → Type 0) → M → List Event → List Reply → M → Type 0
Runs answers old [] [] new = new ≡ old
Runs {M} answers old (e ∷ es) (r ∷ rs) new = (mid : M) × answers old e r mid × Runs answers mid es rs new
Runs answers old [] (r ∷ rs) new = ⊥
Runs answers old (e ∷ es) [] new = ⊥
