-- The end of the event loop is the status of the run.
use Rattle.std.proofs.Common.{◌≡◌, ℕ, List, [], ◌∷◌, length, Bool, true, false, Option, Some, refl, sym, ap, subst, ◌∙◌}
use Rattle.std.proofs.Common.{arith}
use Rattle.std.specs.Prelude.{slice_get, codes, ◌&&◌}
use Rattle.std.specs.Str.{bytes_eq}
use Rattle.device_io.specs.DeviceLog.{DeviceLog}
use Rattle.event_loop.specs.Ends.{moment, Moment, Ends}
use Rattle.event_loop.specs.declared.ends.LoopEnd.{LoopEnd}
use Rattle.event_loop.specs.declared.ends.LoopEnd.TheVariants as ends
use Rattle.audio_daemon.specs.declared.run.Status.{Status}
use Rattle.audio_daemon.specs.Run.{RunEnds, Replayed, is_replay, is_folder, status_of}

module _ {D : Type 0} (faults : D → ℕ) (told : D → Option (List DeviceLog)) (words : List (List ℕ)) where
  by_end : (old new : Moment D) (end : LoopEnd) → is_replay words ≡ true → Ends (Replayed faults told) old new end
      → RunEnds faults told words old new (status_of end)
  by_end old new ends.Done are h = record { words_are = are; ends = h }
  by_end old new (ends.Malformed place) are h = record { words_are = are; ends = h }
  by_end old new ends.ReadFault are h = record { words_are = are; ends = h }
  by_end old new ends.WriteFault are h = record { words_are = are; ends = h }
  by_end old new ends.NoMemory are h = record { words_are = are; ends = h }
  by_end old new ends.TooLong are h = record { words_are = are; ends = h }

  pub has_ended : (devices result old new : D) (left written left' written' : Option (List ℕ)) (end : LoopEnd)
      (status : Status) → old ≡ devices → result ≡ new → status ≡ status_of end → is_replay words ≡ true
      → Ends (Replayed faults told) (moment left written old) (moment left' written' new) end
      → RunEnds faults told words (moment left written devices) (moment left' written' result) status
  has_ended devices result old new left written left' written' end status from to is are h =
      let after = moment left' written' result in
      subst (λ (s : Status). RunEnds faults told words (moment left written devices) after s) (sym is)
      (subst (λ (d : D). RunEnds faults told words (moment left written d) after (status_of end)) from
      (subst (λ (d : D). RunEnds faults told words (moment left written old) (moment left' written' d) (status_of end))
      (sym to) (by_end (moment left written old) (moment left' written' new) end are h)))

-- words that aren't two are other words
pub other_count : (words : List (List ℕ)) (n : ℕ) → n ≡ length words → (n ≡ 2 → ⊥) → false ≡ is_replay words
other_count [] n is not_two = refl
other_count (a ∷ []) n is not_two = refl
other_count (a ∷ b ∷ []) n is not_two = absurd (not_two is)
other_count (a ∷ b ∷ c ∷ words) n is not_two = refl

-- of two words the first is the command, and the second the folder
two : (words : List (List ℕ)) (command folder : List ℕ) (n : ℕ) → n ≡ length words → n ≡ 2
    → Some command ≡ slice_get words 0 → Some folder ≡ slice_get words 1
    → bytes_eq command (codes "replay") && is_folder folder ≡ is_replay words
two [] command folder n is count first second = absurd cc
two (a ∷ []) command folder n is count first second = absurd cc
two (a ∷ b ∷ []) command folder n is count first second =
    let at : command ≡ a = cc first in
    let there : folder ≡ b = cc second in
    ap (λ (x : List ℕ). bytes_eq x (codes "replay") && is_folder folder) at
    ∙ ap (λ (x : List ℕ). bytes_eq a (codes "replay") && is_folder x) there
two (a ∷ b ∷ c ∷ words) command folder n is count first second = absurd (omega arith)

pub same_command : (words : List (List ℕ)) (command folder : List ℕ) (n : ℕ) → n ≡ length words → n ≡ 2
    → Some command ≡ slice_get words 0 → Some folder ≡ slice_get words 1
    → bytes_eq command (codes "replay") ≡ true → is_folder folder ≡ is_replay words
same_command words command folder n is count first second h =
    ap (λ (b : Bool). b && is_folder folder) (sym h) ∙ two words command folder n is count first second

pub other_command : (words : List (List ℕ)) (command folder : List ℕ) (n : ℕ) → n ≡ length words → n ≡ 2
    → Some command ≡ slice_get words 0 → Some folder ≡ slice_get words 1
    → bytes_eq command (codes "replay") ≡ false → false ≡ is_replay words
other_command words command folder n is count first second h =
    ap (λ (b : Bool). b && is_folder folder) (sym h) ∙ two words command folder n is count first second
