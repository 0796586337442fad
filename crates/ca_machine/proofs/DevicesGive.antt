-- What devices give along answers: nothing if none of them was a read, and along two lists what they give along one
-- after the other.
use Rattle.std.proofs.Common.{◌≡◌, ℕ, ◌+◌, ◌-◌, ◌≤◌, List, [], ◌∷◌, ◌++◌, length, Bool, true, false}
use Rattle.std.proofs.Common.{Option, refl, sym, subst, arith, length-append}
use Rattle.std.proofs.lemmas.Bool.{true≢false}
use Rattle.std.specs.List.{AllByRecursion}
use Rattle.std.specs.Option.{option_map}
use Rattle.device_io.specs.DeviceLog.{DeviceLog, add_all, take_left}
use Rattle.ca_machine.specs.Plan.{Asked, Answer, AreAnswers, IsReading, IsWriting, bytes_given}
use Rattle.ca_machine.specs.Plan.Asked.{nothing, memory, writing, reading}
use Rattle.ca_machine.specs.Plan.Answer.{found, out_of_memory, took, gave, failed}
use Rattle.ca_machine.specs.Step.{Entry, FaultsAlong}
use Rattle.ca_machine.specs.View.{GaveAlong, Outside, Passes, ToldAlong}

-- ---- answers that give nothing

abbrev pub is_gift : Answer → Bool
is_gift (gave e bytes) = true
is_gift _ = false

abbrev pub GiveNone : List Answer → Type 0
GiveNone given = AllByRecursion (λ a. is_gift a ≡ false) given

-- devices have left what they had
pub gave_none : (told : Option (List DeviceLog)) (given : List Answer) → GiveNone given → GaveAlong told given told
gave_none told [] h = refl
gave_none told (gave e bytes ∷ given) h = absurd (true≢false h.0)
gave_none told (_ ∷ given) h = gave_none told given h.1

pub bytes_none : (given : List Answer) → GiveNone given → bytes_given given ≡ []
bytes_none [] h = refl
bytes_none (gave e bytes ∷ given) h = absurd (true≢false h.0)
bytes_none (_ ∷ given) h = bytes_none given h.1

-- nothing is asked; memory is there, or runs out; a device is offered bytes
pub nothing_gives_none : GiveNone []
nothing_gives_none = tt

pub found_gives_none : GiveNone (found ∷ [])
found_gives_none = (refl, tt)

pub short_gives_none : GiveNone (out_of_memory ∷ [])
short_gives_none = (refl, tt)

pub writing_gives_none : (n : ℕ) (given : List Answer) → IsWriting n given → GiveNone given
writing_gives_none n [] w = tt
writing_gives_none n (took k ∷ given) w = (refl, writing_gives_none (n - k) given w.2)
writing_gives_none n (failed ∷ []) w = (refl, tt)
writing_gives_none n _ w = absurd w

-- whatever is asked, if it is no read
abbrev pub is_no_reading : Asked → Bool
is_no_reading (reading e n) = false
is_no_reading (memory more) = is_no_reading more
is_no_reading _ = true

pub answers_give_none : (asked : Asked) (given : List Answer) → is_no_reading asked ≡ true → AreAnswers asked given →
    GiveNone given
answers_give_none nothing given h a = subst GiveNone (sym a) tt
answers_give_none (memory more) (found ∷ given) h a = (refl, answers_give_none more given h a)
answers_give_none (memory more) (out_of_memory ∷ []) h a = (refl, tt)
answers_give_none (memory more) _ h a = absurd a
answers_give_none (writing n) given h a = writing_gives_none n given a
answers_give_none (reading e n) given h a = absurd (true≢false (sym h))

-- so the environment passes if devices tell that they took the pieces
pub passes_unread : (old new : Outside) (pieces : List (ℕ × List ℕ)) (given : List Answer) → GiveNone given →
    new.told ≡ option_map (add_all pieces) old.told → FaultsAlong old.faults given new.faults →
    Passes old pieces given new
passes_unread old new pieces given h t f =
    record { left = old.told; gives = gave_none old.told given h; tells = t; counts = f }

-- ---- lists that are appended

pub gave-append : (told mid after : Option (List DeviceLog)) (xs ys : List Answer) → GaveAlong told xs mid →
    GaveAlong mid ys after → GaveAlong told (xs ++ ys) after
gave-append told mid after [] ys h k = subst (λ t. GaveAlong t ys after) h k
gave-append told mid after (gave e bytes ∷ xs) ys h k =
    (h.0, gave-append (option_map (take_left e (length bytes)) told) mid after xs ys h.1 k)
gave-append told mid after (_ ∷ xs) ys h k = gave-append told mid after xs ys h k

-- and parted
pub gave-parted : (told after : Option (List DeviceLog)) (xs ys : List Answer) → GaveAlong told (xs ++ ys) after →
    (mid : Option (List DeviceLog)) × GaveAlong told xs mid × GaveAlong mid ys after
gave-parted told after [] ys h = (told, refl, h)
gave-parted told after (gave e bytes ∷ xs) ys h =
    let r = gave-parted (option_map (take_left e (length bytes)) told) after xs ys h.1 in (r.0, (h.0, r.1), r.2)
gave-parted told after (_ ∷ xs) ys h = gave-parted told after xs ys h

-- along a run
pub told-append : (told mid after : Option (List DeviceLog)) (xs ys : List Entry) → ToldAlong told xs mid →
    ToldAlong mid ys after → ToldAlong told (xs ++ ys) after
told-append told mid after [] ys h k = subst (λ t. ToldAlong t ys after) h k
told-append told mid after (entry ∷ xs) ys h k =
    (h.0, h.1, told-append (option_map (add_all entry.output) h.0) mid after xs ys h.2 k)

-- ---- what a read gives

-- no more than was asked for
pub gives_within : (e n : ℕ) (given : List Answer) → IsReading e n given → length (bytes_given given) ≤ n
gives_within e n [] r = omega arith
gives_within e n (gave from [] ∷ given) r =
    subst (λ g. length (bytes_given g) ≤ n) (sym r.2) (least n)
  where
    least : (n : ℕ) → 0 ≤ n
    least n = omega arith
gives_within e n (gave from (byte ∷ bytes) ∷ given) r =
    subst (λ k. k ≤ n) (sym (length-append (byte ∷ bytes) (bytes_given given)))
    (both (length (byte ∷ bytes)) (length (bytes_given given)) n r.1
    (gives_within e (n - length (byte ∷ bytes)) given r.2))
  where
    both : (a b n : ℕ) → a ≤ n → b ≤ n - a → a + b ≤ n
    both a b n l k = omega arith
gives_within e n (failed ∷ []) r = omega arith
gives_within e n _ r = absurd r
