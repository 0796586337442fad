-- Answers of the machine as a desk are a run of the machine.
use Rattle.std.proofs.Common.{◌≡◌, ℕ, List, [], ◌∷◌, ◌++◌, map, Option, Some, None, refl, sym, ap, subst, ◌∙◌}
use Rattle.std.proofs.Common.{append-nil, inl, arith}
use Rattle.std.specs.Io.KnownBytes.{Appends, Consumes}
use Rattle.std.proofs.lemmas.List.Concat.{flat_map-cons}
use Rattle.device_io.specs.DeviceLog.{DeviceLog}
use Rattle.ca_model.specs.declared.event.Event.{Event}
use Rattle.ca_model.specs.declared.reply.Reply.{Reply}
use Rattle.ca_model.specs.Spelling.IsIncomplete.{no_length}
use Rattle.ca_machine.specs.Plan.{Answer}
use Rattle.ca_machine.specs.Plan.Answer.{
  found,
  out_of_memory,
  took,
  failed,
  gave,
  loaded,
  stored,
  keeper_out_of_memory,
  keeper_failed,
}
use Rattle.ca_machine.specs.State.{State, empty_state}
use Rattle.ca_machine.specs.Step.{Entry, IsRun, FaultsAlong, answers_of}
use Rattle.ca_machine.specs.Headline.{RunsHaveHeadline}
use Rattle.event_loop.specs.Runs.{Runs}
use Rattle.event_loop.specs.Ends.{moment, Ends, Reached, Writing}
use Rattle.event_loop.specs.declared.ends.LoopEnd.{LoopEnd}
use Rattle.event_loop.specs.declared.ends.LoopEnd.TheVariants as ends
use Rattle.ca_machine.specs.View.{MachineView, AnswersEvent, ToldAlong}
use Rattle.audio_daemon.specs.Run.{EachReplies, Replayed}

-- a count of faults along answers and then others
faults-append : (a b c : ℕ) (xs ys : List Answer) → FaultsAlong a xs b → FaultsAlong b ys c → FaultsAlong a (xs ++ ys) c
faults-append a b c [] ys first second = subst (λ (n : ℕ). FaultsAlong n ys c) first second
faults-append a b c (failed ∷ xs) ys first second = (first.0, first.1, faults-append first.0 b c xs ys first.2 second)
faults-append a b c (found ∷ xs) ys first second = faults-append a b c xs ys first second
faults-append a b c (out_of_memory ∷ xs) ys first second = faults-append a b c xs ys first second
faults-append a b c (took n ∷ xs) ys first second = faults-append a b c xs ys first second
faults-append a b c (gave e bs ∷ xs) ys first second = faults-append a b c xs ys first second
faults-append a b c (loaded kept ∷ xs) ys first second = faults-append a b c xs ys first second
faults-append a b c (stored ∷ xs) ys first second = faults-append a b c xs ys first second
faults-append a b c (keeper_out_of_memory ∷ xs) ys first second = faults-append a b c xs ys first second
faults-append a b c (keeper_failed ∷ xs) ys first second = faults-append a b c xs ys first second

-- what the answers of a desk are, from any state
record Found {D : Type 0} (faults : D → ℕ) (told : D → Option (List DeviceLog)) (old : MachineView D)
    (events : List Event) (replies : List Reply) (new : MachineView D) : Type 0 where
  entries : List Entry
  events_are : map (λ entry. entry.event) entries ≡ events
  run : IsRun old.state entries new.state
  replied : EachReplies entries replies
  tells : ToldAlong (told old.devices) entries (told new.devices)
  counts : FaultsAlong (faults old.devices) (answers_of entries) (faults new.devices)

module _ {D : Type 0} (faults : D → ℕ) (told : D → Option (List DeviceLog)) where
  nothing_yet : (old new : MachineView D) → new ≡ old → Found faults told old [] [] new
  nothing_yet old new same = subst (λ (n : MachineView D). Found faults told old [] [] n) (sym same) (record {
    entries = [];
    events_are = refl;
    run = refl;
    replied = tt;
    tells = refl;
    counts = refl;
  })

  one_more : (old mid new : MachineView D) (e : Event) (es : List Event) (r : Reply) (rs : List Reply)
      → AnswersEvent faults told old e r mid → Found faults told mid es rs new
      → Found faults told old (e ∷ es) (r ∷ rs) new
  one_more old mid new e es r rs first rest =
      let answers = flat_map-cons (λ (entry : Entry). entry.answers) first.entry rest.entries in
      let before = faults old.devices in
      let here = faults mid.devices in
      let after = faults new.devices in
      record {
        entries = first.entry ∷ rest.entries;
        events_are =
            ap (λ (x : Event). x ∷ map (λ entry. entry.event) rest.entries) first.event_is
            ∙ ap (λ (xs : List Event). e ∷ xs) rest.events_are;
        run = (mid.state, first.steps, rest.run);
        replied = (first.replies, rest.replied);
        tells = (
          first.passes.left,
          first.passes.gives,
          subst (λ t. ToldAlong t rest.entries (told new.devices)) first.passes.tells rest.tells,
        );
        counts = subst (λ (xs : List Answer). FaultsAlong before xs after) (sym answers)
            (faults-append before here after first.entry.answers (answers_of rest.entries) first.passes.counts
            rest.counts);
      }

  found_in : (old new : MachineView D) (events : List Event) (replies : List Reply)
      → Runs (AnswersEvent faults told) old events replies new → Found faults told old events replies new
  found_in old new [] [] h = nothing_yet old new h
  found_in old new [] (r ∷ rs) h = absurd h
  found_in old new (e ∷ es) [] h = absurd h
  found_in old new (e ∷ es) (r ∷ rs) h = one_more old h.0 new e es r rs h.1 (found_in h.0 new es rs h.2)

  module _ (law : RunsHaveHeadline) (old : MachineView D) (empty : old.state ≡ empty_state) where
    replayed : (new : MachineView D) (events : List Event) (replies : List Reply)
        → Runs (AnswersEvent faults told) old events replies new
        → Replayed faults told old.devices events replies new.devices
    replayed new events replies h =
        let f = found_in old new events replies h in
        let run : IsRun empty_state f.entries new.state =
        subst (λ (s : State). IsRun s f.entries new.state) empty f.run in
        record {
          entries = f.entries;
          state = new.state;
          events_are = f.events_are;
          run = run;
          replied = f.replied;
          tells = f.tells;
          counts = f.counts;
          headline = law f.entries new.state run;
        }

    module _ (left written left' written' : Option (List ℕ)) (new : MachineView D) where
      reached : (wrote : Writing) (holds : List ℕ → List ℕ → Type 0)
          → Reached (Runs (AnswersEvent faults told)) wrote holds (moment left written old) (moment left' written' new)
          → Reached (Replayed faults told) wrote holds
          (moment left written old.devices) (moment left' written' new.devices)
      reached wrote holds h = record {
        events = h.events;
        replies = h.replies;
        rest = h.rest;
        answered = record {
          read = h.answered.read;
          each = h.answered.each;
          runs = replayed new h.events h.replies h.answered.runs;
          written = h.answered.written;
        };
        here = h.here;
      }

      -- an end of the loop over the machine is one over its runs
      pub lifted : (end : LoopEnd)
          → Ends (Runs (AnswersEvent faults told)) (moment left written old) (moment left' written' new) end
          → Ends (Replayed faults told) (moment left written old.devices) (moment left' written' new.devices) end
      lifted ends.Done h = reached _ _ h
      lifted (ends.Malformed place) h = reached _ _ h
      lifted ends.ReadFault h = reached _ _ h
      lifted ends.WriteFault h = reached _ _ h
      lifted ends.NoMemory h = reached _ _ h
      lifted ends.TooLong h = reached _ _ h

-- nothing was read or written
consumes_none : (left : Option (List ℕ)) → Consumes left left []
consumes_none None = tt
consumes_none (Some bytes) = refl

appends_none : (written : Option (List ℕ)) → Appends written written []
appends_none None = tt
appends_none (Some bytes) = sym (append-nil bytes)

-- memory ran out before anything was read
pub nothing_began : {D : Type 0} (faults : D → ℕ) (told : D → Option (List DeviceLog)) → RunsHaveHeadline →
    (left written : Option (List ℕ)) (devices : D) →
    Ends (Replayed faults told) (moment left written devices) (moment left written devices) ends.NoMemory
nothing_began faults told law left written devices = record {
  events = [];
  replies = [];
  rest = [];
  answered = record {
    read = consumes_none left;
    each = tt;
    runs = record {
      entries = [];
      state = empty_state;
      events_are = refl;
      run = refl;
      replied = tt;
      tells = refl;
      counts = refl;
      headline = law [] empty_state refl;
    };
    written = appends_none written;
  };
  here = inl (record {
    more = record { incomplete = no_length (omega arith); size = omega arith };
    behind = λ some. some;
  });
}
