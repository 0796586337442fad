-- Worked packets: a stream that hears an endpoint, one that records another, each with room for two packets; packets
-- that are lost, reads, a Reset, and a close.
use Rattle.std.proofs.Common.{◌≡◌, ℕ, List, [], ◌∷◌, ◌++◌, true, false, Some, refl}
use Rattle.ca_base.specs.declared.ids.StreamKind.TheVariants as kind
use Rattle.ca_base.specs.declared.ids.Reason.TheVariants.{Removal}
use Rattle.ca_stage.specs.Stage.{empty_stage, no_data, Frame, Packet, Stream, Playhead, Stage}
use Rattle.ca_stage.specs.Moves.{leased, released, read, started, stopped, reset, closed, picked, retired, fed, Move}
use Rattle.ca_stage.specs.Moves.{added, opened, of_client, sounded, finished, captured, after_moves, stream_at}
use Rattle.ca_stage.specs.Periods.{sub_steps, captures}
use Rattle.ca_stage.specs.Packets.{Mark, Pending, Read, Overflow, Reset, Dropped, Offer, book, all_read}
use Rattle.ca_stage.specs.Woven.{IsWoven}
use Rattle.ca_stage.specs.Tally.{no_tally, tally_after}
use Rattle.ca_stage.proofs.Worked.{stream_of, frame, plain}

-- client 2 hears what endpoint 7 plays, and client 3 records endpoint 8
abbrev hears : Stream
hears = record (stream_of kind.Loopback 2) { capacity = 6 }

abbrev records : Stream
records = record (stream_of kind.Capture 3) { capacity = 6; endpoint = 8 }

abbrev heard : List Frame
heard = frame 11 ∷ frame 12 ∷ []

abbrev half_heard : List Frame
half_heard = frame 13 ∷ frame 0 ∷ []

abbrev silence : List Frame
silence = frame 0 ∷ frame 0 ∷ []

abbrev given : List Frame
given = frame 31 ∷ frame 32 ∷ []

abbrev opening : List Move
opening =
    added 7 ∷ added 8 ∷ opened (stream_of kind.Render 1) ∷ opened hears ∷ opened records
    ∷ of_client 1 (released (frame 11 ∷ frame 12 ∷ frame 13 ∷ []))
    ∷ of_client 1 started ∷ of_client 2 started ∷ of_client 3 started ∷ []

-- a period, with data calls between its sub-steps
abbrev first_period : List Move
first_period =
    of_client 1 (picked 2) ∷ sounded plain true ∷ of_client 1 retired ∷ of_client 2 (leased 0)
    ∷ of_client 2 (fed heard) ∷ of_client 1 (leased 1) ∷ finished plain true ∷ []

-- a device gives two frames
abbrev recording : List Move
recording = captured 8 given ∷ of_client 2 (read 0) ∷ of_client 3 (fed given) ∷ []

abbrev second_period : List Move
second_period =
    of_client 1 (picked 2) ∷ sounded plain true ∷ of_client 1 retired ∷ of_client 2 (fed half_heard)
    ∷ finished plain true ∷ []

-- nothing plays: those who hear are offered silence
abbrev quiet_period : List Move
quiet_period = sounded plain true ∷ of_client 2 (fed silence) ∷ finished plain true ∷ []

-- a read of no packet leaves the first one, and a read of one takes it
abbrev reads : List Move
reads = of_client 2 (leased 2) ∷ of_client 2 (read 0) ∷ of_client 2 (leased 2) ∷ of_client 2 (read 1) ∷ []

abbrev anew : List Move
anew = of_client 2 stopped ∷ of_client 2 reset ∷ of_client 2 started ∷ []

-- a device gives more than the stream that records it has room for, and the stream is closed
abbrev closing : List Move
closing = recording ++ (of_client 3 (closed Removal) ∷ captured 8 given ∷ [])

-- each part begins with a period; the third and the fifth are lost to client 2
abbrev part_1 : List Move
part_1 = first_period ++ recording

abbrev part_2 : List Move
part_2 = second_period ++ of_client 1 stopped ∷ []

abbrev part_3 : List Move
part_3 = quiet_period ++ reads

abbrev part_5 : List Move
part_5 = quiet_period ++ anew

abbrev part_6 : List Move
part_6 = quiet_period ++ (recording ++ closing)

abbrev worked : List Move
worked = opening ++ (part_1 ++ (part_2 ++ (part_3 ++ (quiet_period ++ (part_5 ++ part_6)))))

-- the stage before each part, and at the end
abbrev stage_1 : Stage
stage_1 = after_moves empty_stage opening

abbrev stage_2 : Stage
stage_2 = after_moves stage_1 part_1

abbrev stage_3 : Stage
stage_3 = after_moves stage_2 part_2

abbrev stage_4 : Stage
stage_4 = after_moves stage_3 part_3

abbrev stage_5 : Stage
stage_5 = after_moves stage_4 quiet_period

abbrev stage_6 : Stage
stage_6 = after_moves stage_5 part_5

abbrev stage_7 : Stage
stage_7 = after_moves stage_6 part_6

-- a packet, and one that follows a packet that was lost
abbrev packet : ℕ → List Frame → Packet
packet position frames = record { position = position; follows_gap = false; frames = frames }

abbrev late : ℕ → List Frame → Packet
late position frames = record { position = position; follows_gap = true; frames = frames }

-- the third packet is lost, and counts
lost_2 : stream_at 2 (after_moves stage_3 quiet_period) ≡ Some (record hears {
  offered = 6;
  ever = 6;
  after_gap = true;
  buffer_data = record no_data { packets = packet 0 heard ∷ packet 2 half_heard ∷ [] };
})
lost_2 = refl

-- the next one that is stored follows a gap, in a position behind those of the packet that was lost
next_2 : stream_at 2 stage_5 ≡ Some (record hears {
  offered = 8;
  ever = 8;
  buffer_data = record no_data { packets = packet 2 half_heard ∷ late 6 silence ∷ [] };
})
next_2 = refl

-- a Reset forgets a gap and the position, but not how many frames there ever were
reset_2 : stream_at 2 stage_6 ≡ Some (record hears { ever = 10 })
reset_2 = refl

anew_2 : stream_at 2 stage_7 ≡ Some (record hears {
  offered = 2;
  ever = 12;
  buffer_data = record no_data { packets = packet 0 silence ∷ [] };
})
anew_2 = refl

-- what became of each packet
abbrev marked : Packet → Mark → Offer
marked p mark = record { packet = p; mark = mark }

book_2 : (book 2 empty_stage worked).offers
    ≡ marked (packet 0 heard) Read ∷ marked (packet 2 half_heard) Reset ∷ marked (packet 4 silence) Overflow
    ∷ marked (late 6 silence) Reset ∷ marked (packet 8 silence) Overflow ∷ marked (packet 0 silence) Pending ∷ []
book_2 = refl

book_3 : (book 3 empty_stage worked).offers
    ≡ marked (packet 0 given) (Dropped Removal) ∷ marked (packet 2 given) (Dropped Removal)
    ∷ marked (packet 4 given) Overflow ∷ []
book_3 = refl

read_2 : all_read 2 empty_stage worked ≡ packet 0 heard ∷ []
read_2 = refl

-- a stream that plays is offered none
book_1 : (book 1 empty_stage worked).offers ≡ []
book_1 = refl

-- packets are no frames that were released: the tally has what client 1 played
tally_is : tally_after no_tally empty_stage worked ≡ record { rendered = 3; reset = 0; dropped = 0 }
tally_is = refl

-- periods with nothing between their sub-steps; a device's frames go to no stream that is closed, or of an endpoint
-- that plays
quiet_steps : sub_steps plain true stage_3 ≡ quiet_period
quiet_steps = refl

second_steps : sub_steps plain true stage_2 ≡ second_period
second_steps = refl

captures_are : captures 8 given stage_3 ≡ captured 8 given ∷ of_client 3 (fed given) ∷ []
captures_are = refl

captures_closed : captures 8 given stage_7 ≡ captured 8 given ∷ []
captures_closed = refl

captures_elsewhere : captures 7 given stage_3 ≡ captured 7 given ∷ []
captures_elsewhere = refl

-- a failed period feeds nobody, and closes who hears
failed_steps : sub_steps plain false stage_3
    ≡ sounded plain false ∷ of_client 1 (closed Removal) ∷ of_client 2 (closed Removal) ∷ finished plain false ∷ []
failed_steps = refl

-- the moves are woven, part by part from the end
abbrev head_at : ℕ → Playhead
head_at next = record { number = 7; next = next }

woven_6 : IsWoven stage_6 [] part_6
woven_6 = (
  [],
  record { mixing = plain; whole = true; playhead = head_at 10; there = refl; steps_are = refl },
  (refl, (refl, (refl, (refl, tt)))),
)

woven_5 : IsWoven stage_5 [] (part_5 ++ part_6)
woven_5 = (
  [],
  record { mixing = plain; whole = true; playhead = head_at 8; there = refl; steps_are = refl },
  (refl, (refl, woven_6)),
)

woven_4 : IsWoven stage_4 [] (quiet_period ++ (part_5 ++ part_6))
woven_4 = (
  [],
  record { mixing = plain; whole = true; playhead = head_at 6; there = refl; steps_are = refl },
  (refl, (refl, woven_5)),
)

woven_3 : IsWoven stage_3 [] (part_3 ++ (quiet_period ++ (part_5 ++ part_6)))
woven_3 = (
  [],
  record { mixing = plain; whole = true; playhead = head_at 4; there = refl; steps_are = refl },
  (refl, (refl, woven_4)),
)

woven_2 : IsWoven stage_2 [] (part_2 ++ (part_3 ++ (quiet_period ++ (part_5 ++ part_6))))
woven_2 = (
  sounded plain true ∷ [],
  record { mixing = plain; whole = true; playhead = head_at 2; there = refl; steps_are = refl },
  (refl, (refl, (refl, (refl, woven_3)))),
)

woven_1 : IsWoven stage_1 [] (part_1 ++ (part_2 ++ (part_3 ++ (quiet_period ++ (part_5 ++ part_6)))))
woven_1 = (
  sounded plain true ∷ [],
  record { mixing = plain; whole = true; playhead = head_at 0; there = refl; steps_are = refl },
  (refl, (refl, (refl, (refl, (refl, woven_2))))),
)

woven : IsWoven empty_stage [] worked
woven = woven_1
