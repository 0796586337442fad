-- An input of whole events has one cut, so the loop ends at its end, or for a named cause.
use Rattle.std.proofs.Common.{◌≡◌, ℕ, List, [], ◌++◌, length, map, Option, Some, None, sym, ap}
use Rattle.std.proofs.Common.{subst, ◌∙◌, append_assoc, append-nil, length-append, arith, inl, inr}
use Rattle.std.specs.List.{AllByRecursion}
use Rattle.std.specs.Io.KnownBytes.{Consumes}
use Rattle.ca_model.specs.declared.event.Event.{Event}
use Rattle.ca_model.specs.Spelling.{IsEvent, IsIncomplete, NoEvent, fields, frames}
use Rattle.ca_model.specs.Spelling.IsIncomplete.{no_length, no_body}
use Rattle.call_wire.proofs.Frames.{front_of}
use Rattle.call_wire.proofs.Cuts.{one_cut, malformed_stays}
use Rattle.event_loop.specs.Ends.{Moment, Course, Answered, Reached, WroteEach, EndsInside, HadOnly, IsDone, ReadAll}
use Rattle.event_loop.specs.Complete.{HasEvents, EndsComplete, WholeInputCompletes}
use Rattle.event_loop.specs.declared.ends.LoopEnd.TheVariants as ends

-- an incomplete prefix holds no event
none_in : (bytes : List ℕ) → IsIncomplete bytes → NoEvent bytes
none_in bytes (no_length below) e begun =
    let front = front_of e bytes begun in absurd (omega (arith, front.long, below))
none_in bytes (no_body some valid below) e begun =
    let front = front_of e bytes begun in absurd (omega (arith, front.long, front.stated, below))

none_in_nothing : NoEvent []
none_in_nothing = none_in [] (no_length (omega arith))

-- what a source had, of which bytes were read, has something behind them
behind : (left left' : Option (List ℕ)) (had bytes : List ℕ) → left ≡ Some had → Consumes left left' bytes →
    (more : List ℕ) × (had ≡ bytes ++ more)
behind left None had bytes is read = absurd (subst (λ (o : Option (List ℕ)). Consumes o None bytes) is read)
behind left (Some more) had bytes is read =
    (more, subst (λ (o : Option (List ℕ)). Consumes o (Some more) bytes) is read)

module _ (left : Option (List ℕ)) (events : List Event) (has : HasEvents left events) where
  -- if events were read and none begins behind them, they are all that there are, and nothing is behind them
  all_read : (some : List Event) (more : List ℕ) → AllByRecursion IsEvent some → NoEvent more →
      frames events ≡ frames some ++ more → (map fields some ≡ map fields events) × (more ≡ [])
  all_read some more are none whole =
      one_cut (frames events) some events more []
      (record { whole = whole; each = are; longest_list = none })
      (record { whole = sym (append-nil (frames events)); each = has.each; longest_list = none_in_nothing })

  -- if the source had these bytes and no more, they are the input
  only : (bytes : List ℕ) → HadOnly left bytes → frames events ≡ bytes
  only bytes had = subst (λ (o : Option (List ℕ)). HadOnly o bytes) has.input had

  -- the loop doesn't end inside an event
  not_inside : (left' : Option (List ℕ)) (place : ℕ) (some : List Event) (rest : List ℕ) →
      AllByRecursion IsEvent some → Consumes left left' (frames some ++ rest) →
      EndsInside left place (frames some) rest → ⊥
  not_inside left' place some rest are read here =
      elim here.why [
        | inl malformed ↦
            let more = behind left left' (frames events) (frames some ++ rest) has.input read in
            let none = all_read some (rest ++ more.0) are (malformed_stays rest more.0 malformed).none
            (more.1 ∙ append_assoc (frames some) rest more.0) in
            malformed.whole (no_length (omega (arith, length-append rest more.0, ap length none.1)))
        | inr part ↦
            let none = all_read some rest are (none_in rest part.1) (only (frames some ++ rest) part.2) in
            absurd (omega (arith, part.0, ap length none.1))
      ]

  -- as many bytes as are read at most aren't there
  not_too_long : (left' : Option (List ℕ)) (some : List Event) (rest : List ℕ) →
      Consumes left left' (frames some ++ rest) → ReadAll (frames some) rest → ⊥
  not_too_long left' some rest read here =
      let more = behind left left' (frames events) (frames some ++ rest) has.input read in
      absurd (omega (arith, has.size, here.size, ap length more.1, length-append (frames some ++ rest) more.0))

module _ {M : Type 0} (did : Course M) (old new : Moment M) (events : List Event)
    (has : HasEvents old.left events) where
  -- at the end of the input each event was answered
  done : Reached did WroteEach (IsDone old.left) old new → EndsComplete did old new events ends.Done
  done h =
      let whole = only old.left events has (frames h.events) h.here.had_only ∙ sym (append-nil (frames h.events)) in
      record {
        answered = h.events;
        replies = h.replies;
        same = (all_read old.left events has h.events [] h.answered.each none_in_nothing whole).0;
        whole =
            subst (λ (rest : List ℕ). Answered did WroteEach old new h.events h.replies rest) h.here.no_rest
            h.answered;
      }

pub whole_input_completes : {M : Type 0} (did : Course M) → WholeInputCompletes did
whole_input_completes did old new ends.Done a b c d events h read write has reads writes = done did old new events has h
whole_input_completes did old new (ends.Malformed place) a b c d events h read write has reads writes =
    not_inside old.left events has new.left place h.events h.rest h.answered.each h.answered.read h.here
whole_input_completes did old new ends.ReadFault a b c d events h read write has reads writes = absurd (reads read)
whole_input_completes did old new ends.WriteFault a b c d events h read write has reads writes = absurd (writes write)
whole_input_completes did old new ends.NoMemory a b c d events h read write has reads writes = tt
whole_input_completes did old new ends.TooLong a b c d events h read write has reads writes =
    not_too_long old.left events has new.left h.events h.rest h.answered.read h.here
