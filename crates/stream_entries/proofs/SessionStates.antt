-- The state of a session, by the entries of its streams.
use Rattle.std.proofs.Common.{◌≡◌, ℕ, ◌==◌, ◌&&◌, ◌||◌, List, [], ◌∷◌, map, Bool, refl, sym, ap, ap₂, ◌∙◌}
use Rattle.std.proofs.Common.{if◌then◌else◌}
use Rattle.std.specs.List.{list_any}
use Rattle.ca_base.specs.declared.values.TheConstants.{SESSION_ACTIVE, SESSION_EXPIRED, SESSION_INACTIVE}
use Rattle.ca_stage.specs.Stage.{BufferData}
use Rattle.ca_machine.specs.Sessions.{state_of_session}
use Rattle.period_engine.specs.declared.entry.StreamEntry.{StreamEntry}
use Rattle.period_engine.specs.Entries.{stream_of, streams_of}

pub any_mapped : {A B : Type 0} (q : B → Bool) (f : A → B) (xs : List A) →
    list_any q (map f xs) ≡ list_any (λ x. q (f x)) xs
any_mapped q f [] = refl
any_mapped q f (x ∷ xs) = ap (λ v. q (f x) || v) (any_mapped q f xs)

-- the state of a session, by its entries
pub state_by : {E : Type 0} (session : ℕ) (entries : List (StreamEntry E)) (runs has : Bool) →
    list_any (λ e. e.session.0 == session && e.running) entries ≡ runs →
    list_any (λ e. e.session.0 == session) entries ≡ has → (datas : ℕ → BufferData) →
    (if runs then SESSION_ACTIVE else if has then SESSION_INACTIVE else SESSION_EXPIRED)
    ≡ state_of_session session (streams_of datas entries)
state_by session entries runs has r h datas = sym
    (ap₂ (λ v w. if v then SESSION_ACTIVE else if w then SESSION_INACTIVE else SESSION_EXPIRED)
    (any_mapped (λ s. s.session == session && s.running) (stream_of datas) entries ∙ r)
    (any_mapped (λ s. s.session == session) (stream_of datas) entries ∙ h))
