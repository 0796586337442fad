-- How the loop ends, by what was read, answered and written so far.
use Rattle.std.proofs.Common.{
  ◌≡◌,
  ℕ,
  ◌+◌,
  ◌-◌,
  ◌<◌,
  ◌≤◌,
  List,
  [],
  ◌∷◌,
  ◌++◌,
  length,
  take,
  drop,
  Option,
  Some,
  None,
  refl,
  sym,
  ap,
  subst,
  ◌∙◌,
  append-nil,
  arith,
  inl,
  inr,
}
use Rattle.std.proofs.KnownBytes.{Appends-trans}
use Rattle.std.proofs.lemmas.List.{length-append}
use Rattle.std.specs.Io.KnownBytes.{Consumes, IsAtEnd}
use Rattle.ca_base.specs.declared.limits.TheConstants.{LONGEST_INPUT}
use Rattle.ca_model.specs.Spelling.{IsIncomplete, IsMalformed, frames}
use Rattle.ca_model.specs.Spelling.IsIncomplete.{no_length, no_body}
use Rattle.ca_model.specs.Replies.{reply_frames}
use Rattle.event_loop.specs.Runs.{Runs}
use Rattle.event_loop.specs.Ends.{
  Moment,
  Answered,
  Ends,
  Reached,
  WroteEach,
  CutsLast,
  IsDone,
  EndsInside,
  ReadAll,
  WantsMore,
  HadOnly,
  moment,
}
use Rattle.event_loop.specs.Parts.{Answer, IsUntouched, ReadsPiece, StopsFront, StopsRead, end_of}
use Rattle.event_loop.specs.declared.ends.LoopEnd.TheVariants as ends
use Rattle.event_loop.specs.declared.ends.Stop.{Stop}
use Rattle.event_loop.specs.declared.ends.Stop.TheVariants as stop
use Rattle.event_loop.proofs.Turns.{SoFar, HasReadRoom, answered_piece, answers_more, at_start, count_more, still}

-- a source that was read to its end had the bytes that were read
source_had : (before after : Option (List ℕ)) (bytes : List ℕ) → Consumes before after bytes → IsAtEnd after
    → HadOnly before bytes
source_had None after bytes read at_end = tt
source_had (Some had) None bytes read at_end = absurd read
source_had (Some had) (Some left) bytes read at_end =
    read ∙ ap (λ (t : List ℕ). bytes ++ t) at_end ∙ append-nil bytes

empty : (bytes : List ℕ) → length bytes ≡ 0 → bytes ≡ []
empty [] size = refl
empty (b ∷ bytes) size = absurd (omega (arith, size))

-- bytes that begin no event have some
malformed_has_some : (bytes : List ℕ) → IsMalformed bytes → 0 < length bytes
malformed_has_some [] h = absurd (h.whole (no_length (omega arith)))
malformed_has_some (b ∷ bytes) h = omega arith

-- memory ran out before anything was read
pub ends_at_once : {M : Type 0} (answers : Answer M) (left written : Option (List ℕ)) (desk : M)
    → Ends (Runs answers) (moment left written desk) (moment left written desk) ends.NoMemory
ends_at_once answers left written desk =
    let now = at_start answers left written desk [] refl in
    record {
      events = now.events;
      replies = now.replies;
      rest = [];
      answered = now.answered;
      here = inl (record {
        more = record { incomplete = no_length (omega arith); size = omega (arith, now.count) };
        behind = λ some. absurd (omega (arith, now.count, some, length-append (frames now.events) []));
      });
    }

module _ {M : Type 0} (answers : Answer M) (old : Moment M) (left written : Option (List ℕ)) (desk : M)
    (pending : List ℕ)
    (taken : ℕ) (h : SoFar answers old (moment left written desk) pending taken) where
  -- no event begins at the front of the pending bytes
  pub ends_malformed : (len : ℕ) → IsMalformed pending → taken ≤ LONGEST_INPUT → len ≡ length pending
      → Ends (Runs answers) old (moment left written desk) (ends.Malformed (taken - len))
  ends_malformed len why within size =
      let sum = length-append (frames h.events) pending in
      record {
        events = h.events;
        replies = h.replies;
        rest = pending;
        answered = h.answered;
        here = record {
          place_is = omega (arith, sum, h.count, size);
          why = inl why;
          below = omega (arith, malformed_has_some pending why, sum, h.count, size, within);
          size = omega (arith, h.count, within);
          cut_below = λ part. absurd (why.whole part);
        };
      }

  -- no more is read
  pub ends_too_long : IsIncomplete pending → taken ≡ LONGEST_INPUT
      → Ends (Runs answers) old (moment left written desk) ends.TooLong
  ends_too_long why all = record {
    events = h.events;
    replies = h.replies;
    rest = pending;
    answered = h.answered;
    here = record { incomplete = why; size = h.count ∙ all };
  }

  -- no piece was read
  pub ends_unread : (s : Stop) (size : ℕ) (left' : Option (List ℕ)) → StopsRead size pending s → left' ≡ left
      → IsIncomplete pending → taken < LONGEST_INPUT → HasReadRoom taken size
      → Ends (Runs answers) old (moment left' written desk) (end_of s)
  ends_unread s size left' why same part below room =
      subst (λ (l : Option (List ℕ)). Ends (Runs answers) old (moment l written desk) (end_of s)) (sym same)
      (here s why)
    where
      more : WantsMore (frames h.events) pending
      more = record { incomplete = part; size = omega (arith, h.count, below) }

      here : (s : Stop) → StopsRead size pending s → Ends (Runs answers) old (moment left written desk) (end_of s)
      here stop.WriteFault why = absurd why
      here stop.ReadFault why = record {
        events = h.events;
        replies = h.replies;
        rest = pending;
        answered = h.answered;
        here = more;
      }
      here stop.NoMemory why = record {
        events = h.events;
        replies = h.replies;
        rest = pending;
        answered = h.answered;
        here = inl (record {
          more = more;
          behind = λ some.
              let sum = length-append (frames h.events) pending in
              let there = room (omega (arith, some, sum, h.count)) in
              omega (arith, why, there);
        });
      }

  -- the event at the front of the pending bytes wasn't answered whole
  pub ends_stopped : (s : Stop) (desk' : M) (written' : Option (List ℕ))
      → StopsFront answers pending desk desk' written written' s
      → taken ≤ LONGEST_INPUT → Ends (Runs answers) old (moment left written' desk') (end_of s)
  ends_stopped stop.ReadFault desk' written' k within = absurd k
  ends_stopped stop.NoMemory desk' written' k within =
      let now = still answers old left written desk pending taken h desk' written' k.1 in
      record {
        events = now.events;
        replies = now.replies;
        rest = pending;
        answered = now.answered;
        here = inr (k.0, omega (arith, now.count, within));
      }
  ends_stopped stop.WriteFault desk' written' k within =
      let front = k.1 in
      let r = front.one.reply in
      let cut = front.one.written in
      record {
        events = h.events ++ front.event ∷ [];
        replies = h.replies ++ r ∷ [];
        rest = drop k.0 pending;
        answered = answers_more answers old left written desk pending taken h CutsLast front.event r k.0 desk'
            written' front.next front.one.answered (record {
              front = h.replies;
              last = r;
              part = cut.part;
              missing = cut.missing;
              replies_are = refl;
              wrote = Appends-trans old.written written written'
                  (reply_frames h.replies) cut.part h.answered.written cut.wrote;
              cut = cut.cut;
              some_missing = cut.some_missing;
            });
        here = omega
            (arith, count_more answers old left written desk pending taken h front.event r k.0 front.next.2, within);
      }

  -- at the end of the source nothing comes behind the pending bytes, and what was read is what the source had
  module _ (pending' : List ℕ) (left' : Option (List ℕ)) (limit count : ℕ)
      (k : ReadsPiece pending pending' left left' limit count)
      (none : count ≡ 0) (below : taken < LONGEST_INPUT) where
    unchanged : pending' ≡ pending
    unchanged = k.behind ∙ ap (λ (t : List ℕ). pending ++ t) (empty k.piece (k.size ∙ none)) ∙ append-nil pending

    had : HadOnly old.left (frames h.events ++ pending')
    had = subst (λ (t : List ℕ). HadOnly old.left (frames h.events ++ t)) (sym unchanged)
        (source_had old.left left (frames h.events ++ pending) h.answered.read (k.ends none))

    now : Answered (Runs answers) WroteEach old (moment left' written desk) h.events h.replies pending'
    now = answered_piece answers old left written desk pending taken h pending' left' limit count k

    size : length (frames h.events ++ pending') ≡ taken
    size = ap (λ (t : List ℕ). length (frames h.events ++ t)) unchanged ∙ h.count

    -- nothing is pending
    pub ends_done : length pending' ≡ 0 → Ends (Runs answers) old (moment left' written desk) ends.Done
    ends_done gone =
        let all : frames h.events ++ pending' ≡ frames h.events =
        ap (λ (t : List ℕ). frames h.events ++ t) (empty pending' gone) ∙ append-nil (frames h.events) in
        record {
          events = h.events;
          replies = h.replies;
          rest = pending';
          answered = now;
          here = record {
            no_rest = empty pending' gone;
            had_only = subst (λ (t : List ℕ). HadOnly old.left t) all had;
            size = omega (arith, ap length all, size, below);
          };
        }

    -- the beginning of an event is pending
    pub ends_inside : (len : ℕ) → IsIncomplete pending → 0 < len → len ≡ length pending'
        → Ends (Runs answers) old (moment left' written desk) (ends.Malformed (taken - len))
    ends_inside len part some is =
        let sum = length-append (frames h.events) pending' in
        let there : 0 < length pending' = omega (arith, some, is) in
        record {
          events = h.events;
          replies = h.replies;
          rest = pending';
          answered = now;
          here = record {
            place_is = omega (arith, sum, size, is);
            why = inr (there, subst IsIncomplete (sym unchanged) part, had);
            below = omega (arith, sum, size, is, some, below);
            size = omega (arith, size, below);
            cut_below = λ _. omega (arith, size, below);
          };
        }
