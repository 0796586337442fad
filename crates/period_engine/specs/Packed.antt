-- Words of a store that captures, as packets (this project's own).
use Rattle.std.specs.Prelude.{ℕ, zero, suc, ◌/◌, ◌%◌, ◌==◌, List, [], ◌∷◌, length, take, drop, false}
use Rattle.client_state.specs.Frames.{frames_in}
use Rattle.ca_stage.specs.Stage.{Packet}

-- a packet in words: its head is twice its position, and 1 more if it follows a gap; then a word for each frame
abbrev pub packet_of : ℕ → List ℕ → Packet
packet_of channels [] = record { position = 0; follows_gap = false; frames = [] }
packet_of channels (head ∷ words) =
    record { position = head / 2; follows_gap = head % 2 == 1; frames = frames_in channels words }

-- this many packets of a period of frames each, from the front of words
abbrev pub packets_from : ℕ → ℕ → ℕ → List ℕ → List Packet
packets_from zero channels period words = []
packets_from (suc count) channels period words =
    packet_of channels (take (suc period) words) ∷ packets_from count channels period (drop (suc period) words)

-- the packets of a store's words
abbrev pub packets_in : ℕ → ℕ → List ℕ → List Packet
packets_in channels period words = packets_from (length words / suc period) channels period words
