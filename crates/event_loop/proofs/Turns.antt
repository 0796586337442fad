-- The turns of the loop: what was read, answered and written so far.
use Rattle.std.proofs.Common.{
  ◌≡◌,
  ℕ,
  ◌+◌,
  ◌<◌,
  ◌≤◌,
  List,
  [],
  ◌∷◌,
  ◌++◌,
  length,
  take,
  drop,
  Option,
  refl,
  sym,
  ap,
  subst,
  ◌∙◌,
  append_assoc,
  append-nil,
  arith,
}
use Rattle.std.proofs.KnownBytes.{Appends-nil, Appends-trans, Consumes-nil, Consumes-trans}
use Rattle.std.proofs.lemmas.List.{length-append, length-drop, length-take, take-append-drop}
use Rattle.std.proofs.lemmas.List.Concat.{flat_map-append}
use Rattle.std.specs.List.{AllByRecursion}
use Rattle.std.specs.Io.KnownBytes.{Appends, Consumes}
use Rattle.ca_base.specs.declared.limits.TheConstants.{READ_SIZE}
use Rattle.ca_model.specs.declared.event.Event.{Event}
use Rattle.ca_model.specs.declared.reply.Reply.{Reply}
use Rattle.ca_model.specs.Spelling.{IsEvent, frame, frames}
use Rattle.ca_model.specs.Replies.{reply_frame, reply_frames}
use Rattle.call_wire.specs.declared.reading.Step.TheVariants as step
use Rattle.call_wire.specs.Next.{IsNext}
use Rattle.event_loop.specs.Runs.{Runs}
use Rattle.event_loop.specs.Ends.{Moment, Answered, CutsLast, Writing, WroteEach, moment}
use Rattle.event_loop.specs.Parts.{Answer, AnswersFront, CutsOff, IsUntouched, ReadsPiece}

-- `taken` bytes were read: those of events that were answered, whose replies were written whole, and the pending ones
pub record SoFar {M : Type 0} (answers : Answer M) (old new : Moment M) (pending : List ℕ) (taken : ℕ) : Type 0 where
  pub events : List Event
  pub replies : List Reply
  pub answered : Answered (Runs answers) WroteEach old new events replies pending
  pub count : length (frames events ++ pending) ≡ taken

-- once something was read, the buffer has a size for a piece
abbrev pub HasReadRoom : ℕ → ℕ → Type 0
HasReadRoom taken size = 0 < taken → READ_SIZE ≤ size

-- one more event is answered
runs_more : {M : Type 0} (answers : Answer M) (a b c : M) (es : List Event) (rs : List Reply) (e : Event) (r : Reply)
    → Runs answers a es rs b → answers b e r c → Runs answers a (es ++ e ∷ []) (rs ++ r ∷ []) c
runs_more answers a b c [] [] e r h k = (c, subst (λ m. answers m e r c) h k, refl)
runs_more answers a b c (x ∷ es) (y ∷ rs) e r h k = (h.0, h.1, runs_more answers h.0 b c es rs e r h.2 k)
runs_more answers a b c [] (y ∷ rs) e r h k = absurd h
runs_more answers a b c (x ∷ es) [] e r h k = absurd h

-- of each, and of one more
each_more : {X : Type 0} (P : X → Type 0) (xs : List X) (x : X) → AllByRecursion P xs → P x
    → AllByRecursion P (xs ++ x ∷ [])
each_more P [] x h k = (k, tt)
each_more P (y ∷ xs) x h k = (h.0, each_more P xs x h.1 k)

-- the bytes of one more event are the first of those that were pending
pub frames_more : (es : List Event) (e : Event) (pending : List ℕ) (used : ℕ) → take used pending ≡ frame e
    → frames (es ++ e ∷ []) ++ drop used pending ≡ frames es ++ pending
frames_more es e pending used h =
    let rest = drop used pending in
    ap (λ (t : List ℕ). t ++ rest)
    (flat_map-append frame es (e ∷ []) ∙ ap (λ (t : List ℕ). frames es ++ t) (append-nil (frame e)))
    ∙ append_assoc (frames es) (frame e) rest
    ∙ ap (λ (t : List ℕ). frames es ++ t) (ap (λ (t : List ℕ). t ++ rest) (sym h) ∙ take-append-drop used pending)

-- an event at the front has some bytes, which leave
pub drop_shorter : (e : Event) (pending : List ℕ) (used : ℕ) → IsNext (step.Event e used) pending
    → length (drop used pending) < length pending
drop_shorter e pending used next =
    let some : 0 < length (frame e) = omega (arith, length-append {A = ℕ}) in
    omega (arith, some, ap length next.2, length-take used pending, next.1, length-drop used pending)

-- the bytes of one more reply come behind those of the others
pub replies_more : (rs : List Reply) (r : Reply) → reply_frames rs ++ reply_frame r ≡ reply_frames (rs ++ r ∷ [])
replies_more rs r = ap (λ (t : List ℕ). reply_frames rs ++ t) (sym (append-nil (reply_frame r)))
    ∙ sym (flat_map-append reply_frame rs (r ∷ []))

-- at first nothing was read
pub at_start : {M : Type 0} (answers : Answer M) (left written : Option (List ℕ)) (desk : M) (pending : List ℕ)
    → pending ≡ []
    → SoFar answers (moment left written desk) (moment left written desk) pending 0
at_start answers left written desk pending none =
    subst (λ (p : List ℕ). SoFar answers (moment left written desk) (moment left written desk) p 0) (sym none) (record {
      events = [];
      replies = [];
      answered = record { read = Consumes-nil left; each = tt; runs = refl; written = Appends-nil written };
      count = refl;
    })

module _ {M : Type 0} (answers : Answer M) (old : Moment M) (left written : Option (List ℕ)) (desk : M)
    (pending : List ℕ)
    (taken : ℕ) (h : SoFar answers old (moment left written desk) pending taken) where
  -- the desk wasn't asked, and nothing was written
  pub still : (desk' : M) (written' : Option (List ℕ)) → IsUntouched desk desk' written written'
      → SoFar answers old (moment left written' desk') pending taken
  still desk' written' same =
      subst (λ (d : M). SoFar answers old (moment left written' d) pending taken) (sym same.desk)
      (subst (λ (w : Option (List ℕ)). SoFar answers old (moment left w desk) pending taken) (sym same.written) h)

  -- the event at the front of the pending bytes was answered, and the sink got this of all replies
  pub answers_more : (wrote : Writing) (e : Event) (r : Reply) (used : ℕ) (desk' : M) (written' : Option (List ℕ))
      → IsNext (step.Event e used) pending → answers desk e r desk' → wrote old.written written' (h.replies ++ r ∷ [])
      → Answered (Runs answers) wrote old (moment left written' desk') (h.events ++ e ∷ []) (h.replies ++ r ∷ [])
      (drop used pending)
  answers_more wrote e r used desk' written' next answered got = record {
    read = subst (λ (t : List ℕ). Consumes old.left left t)
        (sym (frames_more h.events e pending used next.2)) h.answered.read;
    each = each_more IsEvent h.events e h.answered.each next.0;
    runs = runs_more answers old.desk desk desk' h.events h.replies e r h.answered.runs answered;
    written = got;
  }

  -- its bytes were read before
  pub count_more : (e : Event) (r : Reply) (used : ℕ) → take used pending ≡ frame e
      → length (frames (h.events ++ e ∷ []) ++ drop used pending) ≡ taken
  count_more e r used front = ap length (frames_more h.events e pending used front) ∙ h.count

  -- the event at the front of the pending bytes was answered
  pub after_event : (used : ℕ) (desk' : M) (written' : Option (List ℕ))
      → AnswersFront answers Appends pending used desk desk' written written'
      → SoFar answers old (moment left written' desk') (drop used pending) taken
  after_event used desk' written' k =
      let r = k.one.reply in
      let got = Appends-trans old.written written written' (reply_frames h.replies)
      (reply_frame r) h.answered.written k.one.written in
      record {
        events = h.events ++ k.event ∷ [];
        replies = h.replies ++ r ∷ [];
        answered = answers_more WroteEach k.event r used desk' written' k.next k.one.answered
            (subst (λ (t : List ℕ). Appends old.written written' t) (replies_more h.replies r) got);
        count = count_more k.event r used k.next.2;
      }

  -- a piece came behind the pending bytes
  module _ (pending' : List ℕ) (left' : Option (List ℕ)) (limit count : ℕ)
      (k : ReadsPiece pending pending' left left' limit count) where
    same_bytes : (frames h.events ++ pending) ++ k.piece ≡ frames h.events ++ pending'
    same_bytes = append_assoc (frames h.events) pending k.piece
        ∙ ap (λ (t : List ℕ). frames h.events ++ t) (sym k.behind)

    pub answered_piece : Answered (Runs answers) WroteEach old (moment left' written desk) h.events h.replies pending'
    answered_piece = record {
      read = subst (λ (t : List ℕ). Consumes old.left left' t) same_bytes
          (Consumes-trans old.left left left' (frames h.events ++ pending) k.piece h.answered.read k.read);
      each = h.answered.each;
      runs = h.answered.runs;
      written = h.answered.written;
    }

    pub after_piece : SoFar answers old (moment left' written desk) pending' (taken + count)
    after_piece = record {
      events = h.events;
      replies = h.replies;
      answered = answered_piece;
      count = ap length (sym same_bytes) ∙ length-append (frames h.events ++ pending) k.piece
          ∙ omega (arith, h.count, k.size);
    }
