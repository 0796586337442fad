use Rattle.std.proofs.Common.{◌≡◌, ℕ, ◌+◌, ◌<◌, List, [], ◌∷◌, ◌++◌, Bool, true, false, length, drop, flat_map}
use Rattle.std.proofs.Common.{get_or, refl, sym, ap, ◌∙◌, append_assoc, arith, if◌then◌else◌}
use Rattle.std.proofs.lemmas.List.{at_drop_more}
use Rattle.ca_machine.specs.declared.state.Client.{Client}
use Rattle.ca_machine.specs.Registrations.{event_bytes, flagged_on, is_flagged_on}
use Rattle.reply_payload.proofs.notices.put_events.Goals as goal

-- the bytes of events
abbrev events : ℕ → List Client → List ℕ
events conn clients = flat_map event_bytes (flagged_on conn clients)

-- those of the next client behind others, and of those that are left
next_bytes : (conn : ℕ) (old : List ℕ) (cs : List Client) (i : ℕ) (d : Client) → i < length cs →
    (old ++ (if is_flagged_on conn (get_or cs i d) then event_bytes (get_or cs i d) else []))
    ++ events conn (drop (i + 1) cs)
    ≡ old ++ events conn (drop i cs)
next_bytes conn old cs i d below =
    append_assoc old (if is_flagged_on conn c then event_bytes c else []) (events conn (drop (i + 1) cs))
    ∙ ap (λ bytes. old ++ bytes) (by (is_flagged_on conn c) ∙ sym (at_drop_more (events conn) cs i d below))
  where
    c : Client
    c = get_or cs i d

    by : (b : Bool) → (if b then event_bytes c else []) ++ events conn (drop (i + 1) cs)
        ≡ flat_map event_bytes (if b then c ∷ flagged_on conn (drop (i + 1) cs) else flagged_on conn (drop (i + 1) cs))
    by true = refl
    by false = refl

pub clients-preserved : goal.clients-preserved
clients-preserved c =
    let cs = c.args.clients.now in
    let i = c.clients.client-index in
    record {
      list = ap (λ bytes. bytes ++ events c.args.conn.0 (drop (i + 1) cs)) c.put_event.ensures.list
          ∙ next_bytes c.args.conn.0 c.clients.out.list cs i _ c.clients-test.true
          ∙ c.clients.invariant.list;
      length = let before = c.clients.invariant.length in
          let one = c.put_event.ensures.within in
          omega arith;
      keeps = let before = c.clients.invariant.keeps in
          let one = c.put_event.ensures.keeps in
          omega arith;
    }
