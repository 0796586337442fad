-- A worked list: two render streams and a capture stream on one endpoint of two frames a period, the second client's
-- stream opened first, data calls between sub-steps, three whole periods, a close, Resets, and a failed period.
use Rattle.std.proofs.Common.{◌≡◌, ℕ, List, [], ◌∷◌, ◌++◌, true, false, Some, None, refl, pos, ◌==◌, if◌then◌else◌}
use Rattle.ca_base.specs.declared.ids.Gate.TheVariants as gate
use Rattle.ca_base.specs.declared.ids.StreamKind.{StreamKind}
use Rattle.ca_base.specs.declared.ids.StreamKind.TheVariants as kind
use Rattle.ca_base.specs.declared.ids.Reason.TheVariants.{Removal, Released as ReleaseReason}
use Rattle.ca_base.specs.declared.limits.TheConstants.{MAX_TALLY}
use Rattle.volume_stack.specs.Scaling.{unit_gain}
use Rattle.ca_stage.specs.Stage.{empty_stage, no_data, Frame, Stream, Stage}
use Rattle.ca_stage.specs.Moves.{leased, released, started, stopped, reset, closed, picked, retired, Move, added}
use Rattle.ca_stage.specs.Moves.{opened, of_client, sounded, finished, Mixing, after_moves, stream_at}
use Rattle.ca_stage.specs.Periods.{sub_steps}
use Rattle.ca_stage.specs.Mix.{mixed}
use Rattle.ca_stage.specs.Fates.{Rendered, Reset, Dropped, all_released, fates, fates_since, pending_of, next_of}
use Rattle.ca_stage.specs.Woven.{IsWoven}
use Rattle.ca_stage.specs.Tally.{no_tally, tally_after}
use Rattle.ca_stage.specs.Order.{clients, numbers}
use Rattle.ca_stage.specs.Present.{present}
use Rattle.ca_stage.specs.Laws.{sounds, rendered}

abbrev pub stream_of : StreamKind → ℕ → Stream
stream_of kind n = record {
  client = n;
  endpoint = 7;
  kind = kind;
  exclusive = false;
  event_driven = false;
  channels = 1;
  rate = 200;
  buffer = 9;
  period = 2;
  capacity = 9;
  latency = 100000;
  session = 1;
  running = true;
  gate = gate.Open;
  picked = 0;
  position = 0;
  offered = 0;
  ever = 0;
  after_gap = false;
  buffer_data = no_data;
}

abbrev pub frame : ℕ → Frame
frame n = pos n ∷ []

-- by this mixing nothing is changed, and by that one every frame of client 1 is halved
abbrev pub plain : Mixing
plain = record {
  endpoint = 7;
  frames = 2;
  channels = 1;
  gain = λ client channel. unit_gain;
  endpoint_gain = λ channel. unit_gain;
}

abbrev half_of : ℕ → ℕ
half_of client = if client == 1 then 32768 else unit_gain

abbrev halved : Mixing
halved = record plain { gain = λ client channel. half_of client }

abbrev opening : List Move
opening =
    added 7 ∷ added 7 ∷ opened (stream_of kind.Render 2) ∷ opened (stream_of kind.Capture 3)
    ∷ opened (stream_of kind.Render 1) ∷ opened (stream_of kind.Render 2)
    ∷ of_client 1 (released (frame 11 ∷ frame 12 ∷ frame 13 ∷ []))
    ∷ of_client 1 started ∷ of_client 2 started ∷ of_client 3 started ∷ []

abbrev first_period : List Move
first_period =
    of_client 1 (picked 2) ∷ of_client 2 (released (frame 21 ∷ [])) ∷ of_client 2 (picked 2) ∷ of_client 1 (leased 5)
    ∷ of_client 2 (released (frame 22 ∷ [])) ∷ sounded plain true
    ∷ of_client 1 (released (frame 14 ∷ [])) ∷ of_client 1 retired ∷ of_client 2 retired ∷ finished plain true ∷ []

abbrev second_period : List Move
second_period =
    of_client 1 (picked 2) ∷ of_client 2 (picked 2) ∷ sounded halved true
    ∷ of_client 1 retired ∷ of_client 2 retired ∷ finished halved true ∷ []

abbrev between : List Move
between =
    of_client 1 (released (frame 15 ∷ frame 16 ∷ [])) ∷ of_client 1 (closed ReleaseReason)
    ∷ of_client 1 (released (frame 17 ∷ [])) ∷ of_client 1 reset
    ∷ of_client 2 (released (frame 23 ∷ [])) ∷ of_client 2 stopped ∷ of_client 2 reset ∷ of_client 2 started
    ∷ of_client 2 (released (frame 24 ∷ frame 25 ∷ frame 26 ∷ [])) ∷ []

abbrev third_period : List Move
third_period = of_client 2 (picked 2) ∷ sounded plain true ∷ of_client 2 retired ∷ finished plain true ∷ []

abbrev failed_period : List Move
failed_period =
    of_client 2 (picked 2) ∷ of_client 2 (released (frame 27 ∷ [])) ∷ sounded plain false ∷ of_client 2 (leased 1)
    ∷ of_client 2 (closed Removal) ∷ of_client 2 (released (frame 28 ∷ [])) ∷ of_client 3 (closed Removal)
    ∷ finished plain false ∷ []

abbrev worked : List Move
worked = opening ++ (first_period ++ (second_period ++ (between ++ (third_period ++ failed_period))))

-- the stage before each part
abbrev stage_1 : Stage
stage_1 = after_moves empty_stage opening

abbrev stage_2 : Stage
stage_2 = after_moves stage_1 first_period

abbrev stage_3 : Stage
stage_3 = after_moves stage_2 second_period

abbrev stage_4 : Stage
stage_4 = after_moves stage_3 between

abbrev stage_5 : Stage
stage_5 = after_moves stage_4 third_period

-- the streams are in the order of their clients, and the endpoint has one playhead
clients_are : clients stage_1 ≡ 1 ∷ 2 ∷ 3 ∷ []
clients_are = refl

numbers_are : numbers stage_1 ≡ 7 ∷ []
numbers_are = refl

-- whatever a stream is said to be, it is opened at rest and holds nothing
abbrev used : Stream
used = record (stream_of kind.Render 9) {
  gate = gate.Closed Removal;
  picked = 1;
  position = 3;
  offered = 4;
  ever = 5;
  after_gap = true;
  buffer_data = record {
    pending = frame 1 ∷ [];
    packets = record { position = 2; follows_gap = true; frames = frame 2 ∷ [] } ∷ [];
    released = 4;
    lease = Some 2;
  };
}

opened_anew : stream_at 9 (after_moves empty_stage (opened used ∷ []))
    ≡ Some (record (stream_of kind.Render 9) { running = false })
opened_anew = refl

-- what clients 1 and 2 released, and what became of it
released_1 : all_released 1 empty_stage worked
    ≡ frame 11 ∷ frame 12 ∷ frame 13 ∷ frame 14 ∷ frame 15 ∷ frame 16 ∷ []
released_1 = refl

fates_1 : fates 1 empty_stage worked
    ≡ Rendered 7 0 ∷ Rendered 7 1 ∷ Rendered 7 2 ∷ Rendered 7 3 ∷ Dropped ReleaseReason ∷ Dropped ReleaseReason ∷ []
fates_1 = refl

released_2 : all_released 2 empty_stage worked
    ≡ frame 21 ∷ frame 22 ∷ frame 23 ∷ frame 24 ∷ frame 25 ∷ frame 26 ∷ frame 27 ∷ []
released_2 = refl

fates_2 : fates 2 empty_stage worked
    ≡ Rendered 7 0 ∷ Rendered 7 2 ∷ Reset ∷ Rendered 7 4 ∷ Rendered 7 5 ∷ Dropped Removal ∷ Dropped Removal ∷ []
fates_2 = refl

-- in mid-period the frames that came late are padding
pending_1 : pending_of 1 stage_2 ≡ frame 13 ∷ frame 14 ∷ []
pending_1 = refl

pending_2 : pending_of 2 stage_2 ≡ frame 22 ∷ []
pending_2 = refl

-- the failed period leaves the next place
next_is : next_of 7 (after_moves empty_stage worked) ≡ 6
next_is = refl

-- a Reset leaves what was rendered before it out of the position
since_2 : fates_since 2 empty_stage (opening ++ (first_period ++ second_period)) ≡ Rendered 7 0 ∷ Rendered 7 2 ∷ []
since_2 = refl

since_reset : fates_since 2 empty_stage worked
    ≡ Rendered 7 4 ∷ Rendered 7 5 ∷ Dropped Removal ∷ Dropped Removal ∷ []
since_reset = refl

position_2 : stream_at 2 stage_3 ≡ Some (record (stream_of kind.Render 2) {
  position = 2;
  buffer_data = record { pending = []; packets = []; released = 2; lease = None };
})
position_2 = refl

position_reset : stream_at 2 stage_5 ≡ Some (record (stream_of kind.Render 2) {
  position = 2;
  buffer_data = record { pending = frame 26 ∷ []; packets = []; released = 6; lease = None };
})
position_reset = refl

-- a close leaves the lease, and the position
closed_1 : stream_at 1 stage_4 ≡ Some (record (stream_of kind.Render 1) {
  running = false;
  gate = gate.Closed ReleaseReason;
  position = 4;
  buffer_data = record { pending = []; packets = []; released = 6; lease = None };
})
closed_1 = refl

-- a failed device closes the capture stream too
closed_3 : stream_at 3 (after_moves empty_stage worked)
    ≡ Some (record (stream_of kind.Capture 3) { running = false; gate = gate.Closed Removal })
closed_3 = refl

tally_is : tally_after no_tally empty_stage worked ≡ record { rendered = 8; reset = 1; dropped = 4 }
tally_is = refl

-- a count of it saturates
tally_saturates : tally_after (record no_tally { rendered = MAX_TALLY }) empty_stage worked
    ≡ record { rendered = MAX_TALLY; reset = 1; dropped = 4 }
tally_saturates = refl

-- what was mixed at each place, and what is rendered there
sounds_0 : sounds 7 0 empty_stage worked ≡ ((1, frame 11) ∷ (2, frame 21) ∷ []) ∷ []
sounds_0 = refl

sounds_1 : sounds 7 1 empty_stage worked ≡ ((1, frame 12) ∷ []) ∷ []
sounds_1 = refl

sounds_2 : sounds 7 2 empty_stage worked ≡ ((1, frame 13) ∷ (2, frame 22) ∷ []) ∷ []
sounds_2 = refl

sounds_5 : sounds 7 5 empty_stage worked ≡ ((2, frame 25) ∷ []) ∷ []
sounds_5 = refl

-- the failed period's place was mixed by no whole Sound
sounds_6 : sounds 7 6 empty_stage worked ≡ []
sounds_6 = refl

rendered_0 : rendered 7 0 worked ≡ (1, frame 11) ∷ (2, frame 21) ∷ []
rendered_0 = refl

rendered_2 : rendered 7 2 worked ≡ (1, frame 13) ∷ (2, frame 22) ∷ []
rendered_2 = refl

rendered_6 : rendered 7 6 worked ≡ []
rendered_6 = refl

-- what the second period writes, by gains that halve client 1
written_2 : mixed halved (after_moves stage_2 (of_client 1 (picked 2) ∷ of_client 2 (picked 2) ∷ [])).streams
    ≡ frame 28 ∷ frame 7 ∷ []
written_2 = refl

-- with client 1 released its stream may be left out
present_are : clients (present (2 ∷ 3 ∷ []) stage_4) ≡ 2 ∷ 3 ∷ []
present_are = refl

-- a period with nothing between its sub-steps
steps_are : sub_steps halved true stage_2 ≡ second_period
steps_are = refl

-- the failed period is woven, and so are the moves before it, and so on from the end
woven_5 : IsWoven stage_5 [] failed_period
woven_5 = (
  sounded plain false ∷ [],
  record { mixing = plain; whole = false; playhead = record { number = 7; next = 6 }; there = refl; steps_are = refl },
  (refl, (refl, (refl, (refl, tt)))),
)

woven_4 : IsWoven stage_4 [] (third_period ++ failed_period)
woven_4 = (
  sounded plain true ∷ [],
  record { mixing = plain; whole = true; playhead = record { number = 7; next = 4 }; there = refl; steps_are = refl },
  (refl, (refl, (refl, woven_5))),
)

woven_2 : IsWoven stage_2 [] (second_period ++ (between ++ (third_period ++ failed_period)))
woven_2 = (
  of_client 2 (picked 2) ∷ sounded halved true ∷ [],
  record { mixing = halved; whole = true; playhead = record { number = 7; next = 2 }; there = refl; steps_are = refl },
  (refl, (refl, (refl, (refl, (refl, woven_4))))),
)

woven_1 : IsWoven stage_1 [] (first_period ++ (second_period ++ (between ++ (third_period ++ failed_period))))
woven_1 = (
  of_client 2 (picked 2) ∷ sounded plain true ∷ [],
  record { mixing = plain; whole = true; playhead = record { number = 7; next = 0 }; there = refl; steps_are = refl },
  (refl, (refl, (refl, (refl, (refl, woven_2))))),
)

woven : IsWoven empty_stage [] worked
woven = woven_1
