-- The packets that were read are those that are marked so, in order: none that was read comes after one that waits.
use Rattle.std.proofs.Common.{◌≡◌, ℕ, zero, suc, List, [], ◌∷◌, ◌++◌, filter, take, Bool, true, false, cond}
use Rattle.std.proofs.Common.{Option, Some, None, refl, sym, ap, ◌∙◌, append-nil, append_assoc, if◌then◌else◌}
use Rattle.std.proofs.lemmas.Bool.{false≢true}
use Rattle.std.specs.List.{AllByRecursion}
use Rattle.ca_stage.specs.Stage.{empty_stage, Packet, Stream, Stage}
use Rattle.ca_stage.specs.Moves.{StreamMove, read, reset, closed, fed, Move, of_client, is_open_of, after_move}
use Rattle.ca_stage.specs.Moves.{stream_at}
use Rattle.ca_stage.specs.Fates.{of_found}
use Rattle.ca_stage.specs.Packets.{Mark, Pending, Read, Overflow, Reset, Dropped, Offer, PacketBook, empty_book}
use Rattle.ca_stage.specs.Packets.{is_pending_mark, is_read_mark, is_pending, is_read, packets_marked, reads_first}
use Rattle.ca_stage.specs.Packets.{ends_pending, takes_more, book_on, book_by, book_after, packets_taken, read_by}
use Rattle.ca_stage.specs.Packets.{all_read}
use Rattle.ca_stage.specs.Laws.{IsBooked, ReadInOrder}
use Rattle.ca_stage.proofs.Lists.{all-append, chosen}
use Rattle.ca_stage.proofs.Books.{packets_of, marked-append, BookedIn, book_by_none, booked_step}

-- no packet that was read comes after one that waits
abbrev IsUnread : Offer → Type 0
IsUnread o = is_read o ≡ false

abbrev ReadsAhead : List Offer → Type 0
ReadsAhead [] = Unit {0}
ReadsAhead (o ∷ offers) = (is_pending o ≡ true → AllByRecursion IsUnread offers) × ReadsAhead offers

ahead_more : (offers : List Offer) (o : Offer) → IsUnread o → ReadsAhead offers → ReadsAhead (offers ++ o ∷ [])
ahead_more [] o u h = (λ e. tt, tt)
ahead_more (x ∷ offers) o u h =
    (λ e. all-append IsUnread offers (o ∷ []) (h.0 e) (u, tt), ahead_more offers o u h.1)

ahead_one : (n : ℕ) (p : Packet) (k : Mark) (offers : List Offer) → ReadsAhead (reads_first n offers) →
    ReadsAhead (reads_first (suc n) offers) →
    (is_pending_mark k ≡ false → ReadsAhead (record { packet = p; mark = k } ∷ reads_first (suc n) offers)) →
    ReadsAhead (reads_first (suc n) (record { packet = p; mark = k } ∷ offers))
ahead_one n p Pending offers h g f = (λ e. absurd (false≢true e), h)
ahead_one n p Read offers h g f = f refl
ahead_one n p Overflow offers h g f = f refl
ahead_one n p Reset offers h g f = f refl
ahead_one n p (Dropped reason) offers h g f = f refl

not_waiting : (p : Packet) (k : Mark) (rest : List Offer) → ReadsAhead rest → is_pending_mark k ≡ false →
    ReadsAhead (record { packet = p; mark = k } ∷ rest)
not_waiting p k rest h z = (λ e. absurd (false≢true (sym z ∙ e)), h)

ahead_reads : (n : ℕ) (offers : List Offer) → ReadsAhead offers → ReadsAhead (reads_first n offers)
ahead_reads zero offers h = h
ahead_reads (suc n) [] h = tt
ahead_reads (suc n) (o ∷ offers) h =
    ahead_one n o.packet o.mark offers (ahead_reads n offers h.1) (ahead_reads (suc n) offers h.1)
    (not_waiting o.packet o.mark (reads_first (suc n) offers) (ahead_reads (suc n) offers h.1))

end_ahead : (p : Packet) (k mark : Mark) (rest : List Offer) → is_pending_mark mark ≡ false → ReadsAhead rest →
    ReadsAhead
    ((if is_pending_mark k then record { packet = p; mark = mark } else record { packet = p; mark = k }) ∷ rest)
end_ahead p Pending mark rest z h = not_waiting p mark rest h z
end_ahead p Read mark rest z h = not_waiting p Read rest h refl
end_ahead p Overflow mark rest z h = not_waiting p Overflow rest h refl
end_ahead p Reset mark rest z h = not_waiting p Reset rest h refl
end_ahead p (Dropped reason) mark rest z h = not_waiting p (Dropped reason) rest h refl

ahead_ends : (mark : Mark) (offers : List Offer) → is_pending_mark mark ≡ false → ReadsAhead (ends_pending mark offers)
ahead_ends mark [] z = tt
ahead_ends mark (o ∷ offers) z =
    end_ahead o.packet o.mark mark (ends_pending mark offers) z (ahead_ends mark offers z)

unread_mark : (c : Bool) → is_read_mark (if c then Pending else Overflow) ≡ false
unread_mark true = refl
unread_mark false = refl

ahead_moved : (m : StreamMove) (s : Stream) (b : PacketBook) → ReadsAhead b.offers → ReadsAhead (book_on m s b).offers
ahead_moved (fed frames) s b h = ahead_more b.offers _ (unread_mark (takes_more s b)) h
ahead_moved (read n) s b h = ahead_reads n b.offers h
ahead_moved reset s b h = ahead_ends Reset b.offers refl
ahead_moved (closed reason) s b h = ahead_ends (Dropped reason) b.offers refl
ahead_moved _ s b h = h

-- what is read is marked behind what was read before
none_read : (offers : List Offer) → AllByRecursion IsUnread offers → packets_marked is_read offers ≡ []
none_read [] h = refl
none_read (o ∷ offers) h =
    ap (λ c. packets_of (cond c (o ∷ filter is_read offers) (filter is_read offers))) h.0 ∙ none_read offers h.1

marks_one : (n : ℕ) (p : Packet) (k : Mark) (offers : List Offer) →
    (is_pending_mark k ≡ true → AllByRecursion IsUnread offers) →
    packets_marked is_read (reads_first n offers)
    ≡ packets_marked is_read offers ++ take n (packets_marked is_pending offers) →
    packets_marked is_read (reads_first (suc n) offers)
    ≡ packets_marked is_read offers ++ take (suc n) (packets_marked is_pending offers) →
    packets_marked is_read (reads_first (suc n) (record { packet = p; mark = k } ∷ offers))
    ≡ packets_marked is_read (record { packet = p; mark = k } ∷ offers)
    ++ take (suc n) (packets_marked is_pending (record { packet = p; mark = k } ∷ offers))
marks_one n p Pending offers u e f =
    let z = none_read offers (u refl) in
    ap (λ ps. p ∷ ps) (e ∙ ap (λ ps. ps ++ take n (packets_marked is_pending offers)) z)
    ∙ sym (ap (λ ps. ps ++ p ∷ take n (packets_marked is_pending offers)) z)
marks_one n p Read offers u e f = ap (λ ps. p ∷ ps) f
marks_one n p Overflow offers u e f = f
marks_one n p Reset offers u e f = f
marks_one n p (Dropped reason) offers u e f = f

reads_marked : (n : ℕ) (offers : List Offer) → ReadsAhead offers →
    packets_marked is_read (reads_first n offers)
    ≡ packets_marked is_read offers ++ take n (packets_marked is_pending offers)
reads_marked zero offers h = sym (append-nil _)
reads_marked (suc n) [] h = refl
reads_marked (suc n) (o ∷ offers) h =
    marks_one n o.packet o.mark offers h.0 (reads_marked n offers h.1) (reads_marked (suc n) offers h.1)

end_marks : (p : Packet) (k mark : Mark) (offers : List Offer) → is_read_mark mark ≡ false →
    packets_marked is_read (ends_pending mark offers) ≡ packets_marked is_read offers →
    packets_marked is_read (ends_pending mark (record { packet = p; mark = k } ∷ offers))
    ≡ packets_marked is_read (record { packet = p; mark = k } ∷ offers)
end_marks p Pending mark offers z e =
    ap (λ c. packets_of (cond c (record { packet = p; mark = mark } ∷ filter is_read (ends_pending mark offers))
    (filter is_read (ends_pending mark offers)))) z
    ∙ e
end_marks p Read mark offers z e = ap (λ ps. p ∷ ps) e
end_marks p Overflow mark offers z e = e
end_marks p Reset mark offers z e = e
end_marks p (Dropped reason) mark offers z e = e

ends_marked : (mark : Mark) (offers : List Offer) → is_read_mark mark ≡ false →
    packets_marked is_read (ends_pending mark offers) ≡ packets_marked is_read offers
ends_marked mark [] z = refl
ends_marked mark (o ∷ offers) z = end_marks o.packet o.mark mark offers z (ends_marked mark offers z)

-- each move marks what it reads
fed_marked : (p : Packet) (c : Bool) →
    packets_marked is_read (record { packet = p; mark = if c then Pending else Overflow } ∷ []) ≡ []
fed_marked p true = refl
fed_marked p false = refl

moved_marked : (m : StreamMove) (s : Stream) (b : PacketBook) → IsBooked s b → ReadsAhead b.offers →
    packets_marked is_read (book_on m s b).offers ≡ packets_marked is_read b.offers ++ packets_taken m s
moved_marked (fed frames) s b h a =
    marked-append is_read b.offers _
    ∙ ap (λ ps. packets_marked is_read b.offers ++ ps) (fed_marked _ (takes_more s b))
moved_marked (read n) s b h a =
    reads_marked n b.offers a ∙ ap (λ ps. packets_marked is_read b.offers ++ take n ps) (sym h.waits)
moved_marked reset s b h a = ends_marked Reset b.offers refl ∙ sym (append-nil _)
moved_marked (closed reason) s b h a = ends_marked (Dropped reason) b.offers refl ∙ sym (append-nil _)
moved_marked _ s b h a = sym (append-nil _)

step_marked : (x : Move) (o : Option Stream) (b : PacketBook) → BookedIn o b → ReadsAhead b.offers →
    packets_marked is_read (book_by x o b).offers ≡ packets_marked is_read b.offers ++ of_found (read_by x) o
step_marked x None b h a = ap (λ c. packets_marked is_read c.offers) (book_by_none x b) ∙ sym (append-nil _)
step_marked (of_client client m) (Some s) b h a = go (is_open_of client s)
  where
    go : (c : Bool) → packets_marked is_read (if c then book_on m s b else b).offers
        ≡ packets_marked is_read b.offers ++ (if c then packets_taken m s else [])
    go true = moved_marked m s b h a
    go false = sym (append-nil _)
step_marked _ (Some s) b h a = sym (append-nil _)

step_ahead : (x : Move) (o : Option Stream) (b : PacketBook) → ReadsAhead b.offers → ReadsAhead (book_by x o b).offers
step_ahead (of_client client m) (Some s) b a =
    chosen (λ (c : PacketBook). ReadsAhead c.offers) (is_open_of client s) (book_on m s b) b (ahead_moved m s b a) a
step_ahead _ _ b a = a

read_all : (n : ℕ) (st : Stage) (xs : List Move) (b : PacketBook) → BookedIn (stream_at n st) b → ReadsAhead b.offers →
    packets_marked is_read (book_after b n st xs).offers ≡ packets_marked is_read b.offers ++ all_read n st xs
read_all n st [] b h a = sym (append-nil _)
read_all n st (x ∷ xs) b h a =
    read_all n (after_move st x) xs (book_by x (stream_at n st) b) (booked_step n st x b (stream_at n st) refl h)
    (step_ahead x (stream_at n st) b a)
    ∙ ap (λ ps. ps ++ all_read n (after_move st x) xs) (step_marked x (stream_at n st) b h a)
    ∙ append_assoc (packets_marked is_read b.offers) _ _

pub read_in_order : ReadInOrder
read_in_order n xs = sym (read_all n empty_stage xs empty_book refl tt)
