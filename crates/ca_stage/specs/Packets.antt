-- The book of a stream's packets: every packet that was ever offered to it, with what became of each, as a function of
-- a list of moves (IAudioCaptureClient; the book is this project's own).
use Rattle.std.specs.Prelude.{ℕ, zero, suc, ◌+◌, not, nat_lt, List, [], ◌∷◌, ◌++◌, length, map, take, Bool, true, false}
use Rattle.std.specs.Prelude.{Option, Some, if◌then◌else◌, count_by, filter}
use Rattle.ca_base.specs.declared.ids.Reason.{Reason}
use Rattle.ca_stage.specs.Stage.{Frame, Packet, Stream, Stage, packet_room}
use Rattle.ca_stage.specs.Moves.{StreamMove, read, reset, closed, fed, Move, of_client, is_open_of, after_move}
use Rattle.ca_stage.specs.Moves.{stream_at}
use Rattle.ca_stage.specs.Fates.{of_found, passing}

-- what became of a packet
pub data Mark : Type 0 where
  -- it waits to be read; the client read it
  Pending : Mark
  Read : Mark
  -- there was no room for it
  Overflow : Mark
  -- Reset threw it away; it was lost as the stream was closed
  Reset : Mark
  Dropped : Reason → Mark

-- a packet that was offered, and its mark
pub record Offer : Type 0 where
  pub packet : Packet
  pub mark : Mark

-- every packet that was ever offered, in order; how many frames were offered since the last Reset; whether the last
-- packet offered since then was lost
pub record PacketBook : Type 0 where
  pub offers : List Offer
  pub offered : ℕ
  pub after_gap : Bool

-- nothing was offered yet
abbrev pub empty_book : PacketBook
empty_book = record { offers = []; offered = 0; after_gap = false }

-- which mark it is, and which one a packet has
abbrev pub is_pending_mark : Mark → Bool
is_pending_mark Pending = true
is_pending_mark _ = false

abbrev pub is_read_mark : Mark → Bool
is_read_mark Read = true
is_read_mark _ = false

abbrev pub is_pending : Offer → Bool
is_pending o = is_pending_mark o.mark

abbrev pub is_read : Offer → Bool
is_read o = is_read_mark o.mark

-- the packets that have a mark, in the order in which they were offered
abbrev pub packets_marked : (Offer → Bool) → List Offer → List Packet
packets_marked test offers = map (λ o. o.packet) (filter test offers)

-- the first packets that wait, this many of them, are read
abbrev pub reads_first : ℕ → List Offer → List Offer
reads_first zero offers = offers
reads_first (suc n) [] = []
reads_first (suc n) (o ∷ offers) =
    if is_pending o then record o { mark = Read } ∷ reads_first n offers else o ∷ reads_first (suc n) offers

-- all packets that wait get another mark
abbrev pub ends_pending : Mark → List Offer → List Offer
ends_pending mark offers = map (λ o. if is_pending o then record o { mark = mark } else o) offers

-- whether there is room for a packet more
abbrev pub takes_more : Stream → PacketBook → Bool
takes_more s b = nat_lt (count_by is_pending b.offers) (packet_room s)

-- these frames are offered as a packet
abbrev pub offers_more : List Frame → Stream → PacketBook → List Offer
offers_more frames s b = b.offers ++ record {
  packet = record { position = b.offered; follows_gap = b.after_gap; frames = frames };
  mark = if takes_more s b then Pending else Overflow;
}
    ∷ []

-- the book of a stream after a move of it; of the stream it asks what it was opened as
abbrev pub book_on : StreamMove → Stream → PacketBook → PacketBook
book_on (fed frames) s b = record {
  offers = offers_more frames s b;
  offered = b.offered + length frames;
  after_gap = not (takes_more s b);
}
book_on (read n) s b = record b { offers = reads_first n b.offers }
book_on reset s b = record { offers = ends_pending Reset b.offers; offered = 0; after_gap = false }
book_on (closed reason) s b = record b { offers = ends_pending (Dropped reason) b.offers }
book_on _ s b = b

-- after a move of the stage, if the stream is there
abbrev pub book_by : Move → Option Stream → PacketBook → PacketBook
book_by (of_client client m) (Some s) b = if is_open_of client s then book_on m s b else b
book_by _ _ b = b

-- the book of the stream of client n after a list of moves
abbrev pub book_after : PacketBook → ℕ → Stage → List Move → PacketBook
book_after b n st [] = b
book_after b n st (x ∷ xs) = book_after (book_by x (stream_at n st) b) n (after_move st x) xs

abbrev pub book : ℕ → Stage → List Move → PacketBook
book n st xs = book_after empty_book n st xs

-- the packets that a move reads, and those that a list of moves reads of the stream of client n, in order
abbrev pub packets_taken : StreamMove → Stream → List Packet
packets_taken (read k) s = take k s.buffer_data.packets
packets_taken _ s = []

abbrev pub read_by : Move → Stream → List Packet
read_by (of_client client m) s = passing client s (packets_taken m s)
read_by _ s = []

abbrev pub all_read : ℕ → Stage → List Move → List Packet
all_read n st [] = []
all_read n st (x ∷ xs) = of_found (read_by x) (stream_at n st) ++ all_read n (after_move st x) xs
