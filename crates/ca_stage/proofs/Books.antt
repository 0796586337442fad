-- The book of a stream's packets: what waits in the stream is what is pending in the book, and its counts are the
-- book's.
use Rattle.std.proofs.Common.{◌≡◌, ℕ, zero, suc, ◌+◌, not, nat_lt, List, [], ◌∷◌, ◌++◌, length, map, filter, drop, Bool}
use Rattle.std.proofs.Common.{true, false, cond, Option, Some, None, refl, sym, ap, ap₂, ◌∙◌, subst, append-nil, sum_by}
use Rattle.std.proofs.Common.{count_by, arith, if◌then◌else◌}
use Rattle.std.proofs.lemmas.List.{length-map, map-append}
use Rattle.std.proofs.lemmas.List.Elements.{filter-append}
use Rattle.std.proofs.lemmas.List.Sums.{length-filter, sum_by-append, sum_by-cons}
use Rattle.ca_stage.specs.Stage.{empty_stage, Frame, Packet, Stream, Stage, packet_room}
use Rattle.ca_stage.specs.Moves.{StreamMove, read, reset, closed, fed, Move, of_client, as_opened, has_room, moved}
use Rattle.ca_stage.specs.Moves.{is_open_of, stream_after, after_move, after_moves, stream_at}
use Rattle.ca_stage.specs.Packets.{Mark, Pending, Read, Overflow, Reset, Dropped, Offer, PacketBook, empty_book}
use Rattle.ca_stage.specs.Packets.{is_pending_mark, is_pending, packets_marked, reads_first, ends_pending, takes_more}
use Rattle.ca_stage.specs.Packets.{book_on, book_by, book_after, book}
use Rattle.ca_stage.specs.Laws.{IsBooked, Booked}
use Rattle.ca_stage.proofs.Streams.{moved_there, came, Comes, absent, present}
use Rattle.ca_stage.proofs.MapTallies.{sum_map}

-- the packets of a book, whatever became of them
abbrev pub packets_of : List Offer → List Packet
packets_of offers = map (λ o. o.packet) offers

-- the packets that have a mark
pub length-marked : (test : Offer → Bool) (offers : List Offer) →
    length (packets_marked test offers) ≡ count_by test offers
length-marked test offers = length-map _ _ ∙ length-filter test offers

pub marked-append : (test : Offer → Bool) (offers more : List Offer) →
    packets_marked test (offers ++ more) ≡ packets_marked test offers ++ packets_marked test more
marked-append test offers more =
    ap packets_of (filter-append test offers more)
    ∙ map-append (λ o. o.packet) (filter test offers) (filter test more)

-- a read and the end of what waits leave the packets of a book, but for their marks
marked_anew : (o : Offer) (k : Mark) (rest offers : List Offer) (b : Bool) → packets_of rest ≡ packets_of offers →
    packets_of ((if b then record o { mark = k } else o) ∷ rest) ≡ packets_of (o ∷ offers)
marked_anew o k rest offers true e = ap (λ ps. o.packet ∷ ps) e
marked_anew o k rest offers false e = ap (λ ps. o.packet ∷ ps) e

read_anew : (n : ℕ) (o : Offer) (offers : List Offer) (b : Bool) →
    packets_of (reads_first n offers) ≡ packets_of offers →
    packets_of (reads_first (suc n) offers) ≡ packets_of offers →
    packets_of (if b then record o { mark = Read } ∷ reads_first n offers else o ∷ reads_first (suc n) offers)
    ≡ packets_of (o ∷ offers)
read_anew n o offers true e f = ap (λ ps. o.packet ∷ ps) e
read_anew n o offers false e f = ap (λ ps. o.packet ∷ ps) f

pub reads_packets : (n : ℕ) (offers : List Offer) → packets_of (reads_first n offers) ≡ packets_of offers
reads_packets zero offers = refl
reads_packets (suc n) [] = refl
reads_packets (suc n) (o ∷ offers) =
    read_anew n o offers (is_pending o) (reads_packets n offers) (reads_packets (suc n) offers)

pub ends_packets : (mark : Mark) (offers : List Offer) → packets_of (ends_pending mark offers) ≡ packets_of offers
ends_packets mark [] = refl
ends_packets mark (o ∷ offers) =
    marked_anew o mark (ends_pending mark offers) offers (is_pending o) (ends_packets mark offers)

-- how many frames a book's packets have
abbrev frames_in : List Offer → ℕ
frames_in offers = sum_by (λ o. length o.packet.frames) offers

frames_in_one : (o : Offer) → frames_in (o ∷ []) ≡ length o.packet.frames
frames_in_one o = sum_by-cons (λ (o : Offer). length o.packet.frames) o [] ∙ omega arith

frames_same : (offers rest : List Offer) → packets_of rest ≡ packets_of offers → frames_in rest ≡ frames_in offers
frames_same offers rest e =
    sym (sum_map (λ (p : Packet). length p.frames) (λ (o : Offer). o.packet) rest)
    ∙ ap (sum_by (λ (p : Packet). length p.frames)) e
    ∙ sum_map (λ (p : Packet). length p.frames) (λ (o : Offer). o.packet) offers

-- of the packets that wait the first are read
read_one : (n : ℕ) (p : Packet) (k : Mark) (offers : List Offer) →
    drop n (packets_marked is_pending offers) ≡ packets_marked is_pending (reads_first n offers) →
    drop (suc n) (packets_marked is_pending offers) ≡ packets_marked is_pending (reads_first (suc n) offers) →
    drop (suc n) (packets_marked is_pending (record { packet = p; mark = k } ∷ offers))
    ≡ packets_marked is_pending (reads_first (suc n) (record { packet = p; mark = k } ∷ offers))
read_one n p Pending offers e f = e
read_one n p Read offers e f = f
read_one n p Overflow offers e f = f
read_one n p Reset offers e f = f
read_one n p (Dropped reason) offers e f = f

pub reads_pending : (n : ℕ) (offers : List Offer) →
    drop n (packets_marked is_pending offers) ≡ packets_marked is_pending (reads_first n offers)
reads_pending zero offers = refl
reads_pending (suc n) [] = refl
reads_pending (suc n) (o ∷ offers) =
    read_one n o.packet o.mark offers (reads_pending n offers) (reads_pending (suc n) offers)

-- none waits any more
end_one : (p : Packet) (k mark : Mark) (offers : List Offer) → is_pending_mark mark ≡ false →
    [] ≡ packets_marked is_pending (ends_pending mark offers) →
    [] ≡ packets_marked is_pending (ends_pending mark (record { packet = p; mark = k } ∷ offers))
end_one p Pending mark offers h e =
    e ∙ sym (ap (λ b. packets_of (cond b (record { packet = p; mark = mark } ∷
    filter is_pending (ends_pending mark offers)) (filter is_pending (ends_pending mark offers)))) h)
end_one p Read mark offers h e = e
end_one p Overflow mark offers h e = e
end_one p Reset mark offers h e = e
end_one p (Dropped reason) mark offers h e = e

pub ends_all : (mark : Mark) (offers : List Offer) → is_pending_mark mark ≡ false →
    [] ≡ packets_marked is_pending (ends_pending mark offers)
ends_all mark [] h = refl
ends_all mark (o ∷ offers) h = end_one o.packet o.mark mark offers h (ends_all mark offers h)

-- there is room in the stream if there is in the book
same_room : (s : Stream) (b : PacketBook) → IsBooked s b → has_room s ≡ takes_more s b
same_room s b h = ap (λ k. nat_lt k (packet_room s)) (ap length h.waits ∙ length-marked is_pending b.offers)

-- these frames are offered
fed_waits : (frames : List Frame) (s : Stream) (b : PacketBook) (c : Bool) → IsBooked s b →
    (if c then s.buffer_data.packets ++ record { position = s.offered; follows_gap = s.after_gap; frames = frames } ∷ []
    else s.buffer_data.packets)
    ≡ packets_marked is_pending b.offers ++ packets_marked is_pending (record {
      packet = record { position = b.offered; follows_gap = b.after_gap; frames = frames };
      mark = if c then Pending else Overflow;
    }
    ∷ [])
fed_waits frames s b true h =
    ap₂ (λ ps p. ps ++ p ∷ []) h.waits
    (ap₂ (λ k g. record { position = k; follows_gap = g; frames = frames }) h.offered h.after_gap)
fed_waits frames s b false h = h.waits ∙ sym (append-nil _)

fed_booked : (frames : List Frame) (s : Stream) (b : PacketBook) → IsBooked s b →
    IsBooked (moved (fed frames) s) (book_on (fed frames) s b)
fed_booked frames s b h = record {
  waits =
      fed_waits frames s b (has_room s) h
      ∙ ap (λ c. packets_marked is_pending b.offers ++ packets_marked is_pending (record {
        packet = record { position = b.offered; follows_gap = b.after_gap; frames = frames };
        mark = if c then Pending else Overflow;
      }
      ∷ [])) (same_room s b h)
      ∙ sym (marked-append is_pending b.offers _);
  offered = ap (λ k. k + length frames) h.offered;
  after_gap = ap not (same_room s b h);
  ever =
      ap (λ k. k + length frames) h.ever
      ∙ ap (λ k. frames_in b.offers + k) (sym (frames_in_one (record {
        packet = record { position = b.offered; follows_gap = b.after_gap; frames = frames };
        mark = if takes_more s b then Pending else Overflow;
      })))
      ∙ sym (sum_by-append (λ (o : Offer). length o.packet.frames) b.offers _);
}

-- each move of a stream goes on in the book
booked_moved : (m : StreamMove) (s : Stream) (b : PacketBook) → IsBooked s b → IsBooked (moved m s) (book_on m s b)
booked_moved (fed frames) s b h = fed_booked frames s b h
booked_moved (read n) s b h = record {
  waits = ap (drop n) h.waits ∙ reads_pending n b.offers;
  offered = h.offered;
  after_gap = h.after_gap;
  ever = h.ever ∙ sym (frames_same b.offers (reads_first n b.offers) (reads_packets n b.offers));
}
booked_moved reset s b h = record {
  waits = ends_all Reset b.offers refl;
  offered = refl;
  after_gap = refl;
  ever = h.ever ∙ sym (frames_same b.offers (ends_pending Reset b.offers) (ends_packets Reset b.offers));
}
booked_moved (closed reason) s b h = record {
  waits = ends_all (Dropped reason) b.offers refl;
  offered = h.offered;
  after_gap = h.after_gap;
  ever =
      h.ever
      ∙ sym (frames_same b.offers (ends_pending (Dropped reason) b.offers) (ends_packets (Dropped reason) b.offers));
}
booked_moved _ s b h =
    record { waits = h.waits; offered = h.offered; after_gap = h.after_gap; ever = h.ever }

-- if there is no stream, the book is empty
abbrev pub BookedIn : Option Stream → PacketBook → Type 0
BookedIn None b = b ≡ empty_book
BookedIn (Some s) b = IsBooked s b

pub book_by_none : (x : Move) (b : PacketBook) → book_by x None b ≡ b
book_by_none (of_client client m) b = refl
book_by_none _ b = refl

booked_comes : (o : Option Stream) (b : PacketBook) → b ≡ empty_book → Comes o → BookedIn o b
booked_comes o b h (absent e) = subst (λ o. BookedIn o b) (sym e) h
booked_comes o b h (present new e) =
    subst (λ o. BookedIn o b) (sym e)
    (subst (IsBooked (as_opened new)) (sym h) (record { waits = refl; offered = refl; after_gap = refl; ever = refl }))

booked_after : (x : Move) (s : Stream) (b : PacketBook) → IsBooked s b →
    IsBooked (stream_after x s) (book_by x (Some s) b)
booked_after (of_client client m) s b h = go (is_open_of client s)
  where
    go : (c : Bool) → IsBooked (if c then moved m s else s) (if c then book_on m s b else b)
    go true = booked_moved m s b h
    go false = h
booked_after _ s b h = h

pub booked_step : (n : ℕ) (st : Stage) (x : Move) (b : PacketBook) (o : Option Stream) → stream_at n st ≡ o →
    BookedIn o b → BookedIn (stream_at n (after_move st x)) (book_by x o b)
booked_step n st x b None e h =
    booked_comes (stream_at n (after_move st x)) (book_by x None b) (book_by_none x b ∙ h) (came n st x e)
booked_step n st x b (Some s) e h =
    subst (λ o. BookedIn o (book_by x (Some s) b)) (sym (moved_there n st x s e)) (booked_after x s b h)

pub booked_all : (n : ℕ) (st : Stage) (xs : List Move) (b : PacketBook) → BookedIn (stream_at n st) b →
    BookedIn (stream_at n (after_moves st xs)) (book_after b n st xs)
booked_all n st [] b h = h
booked_all n st (x ∷ xs) b h =
    booked_all n (after_move st x) xs (book_by x (stream_at n st) b) (booked_step n st x b (stream_at n st) refl h)

pub booked : Booked
booked n s xs e =
    subst (λ o. BookedIn o (book n empty_stage xs)) e (booked_all n empty_stage xs empty_book refl)

-- and one list of moves after another goes on in it
pub book-append : (n : ℕ) (st : Stage) (xs ys : List Move) (b : PacketBook) →
    book_after b n st (xs ++ ys) ≡ book_after (book_after b n st xs) n (after_moves st xs) ys
book-append n st [] ys b = refl
book-append n st (x ∷ xs) ys b = book-append n (after_move st x) xs ys (book_by x (stream_at n st) b)
