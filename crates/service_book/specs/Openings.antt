-- What an Initialize asks for, and the session that its stream joins, as the code has it (this project's own).
use Rattle.std.specs.Prelude.{◌≡◌, ◌*◌, ◌≤◌, [], ◌∷◌, true, false, None}
use Rattle.std.specs.Prelude.{if◌then◌else◌}
use Rattle.ca_base.specs.declared.ids.EndpointNo.{EndpointNo}
use Rattle.ca_base.specs.declared.ids.SessionNo.{SessionNo}
use Rattle.ca_base.specs.declared.ids.StreamKind.{StreamKind}
use Rattle.ca_base.specs.declared.limits.TheConstants.{MAX_EXCLUSIVE_BUFFER, MAX_EXCLUSIVE_PERIOD, MAX_STORE_WORDS}
use Rattle.wave_format.specs.declared.format.Format.{Format}
use Rattle.wave_format.specs.Format.{IsValid, spelled}
use Rattle.session_manager.specs.declared.session.SessionKey.{SessionKey}
use Rattle.session_manager.specs.Sessions.{joined, number_joined}
use Rattle.ca_machine.specs.declared.state.Connection.{Connection}
use Rattle.ca_machine.specs.State.{State}
use Rattle.ca_machine.specs.Plan.{Plan}
use Rattle.ca_machine.specs.Formats.{is_exclusive}
use Rattle.ca_machine.specs.Openings.{Opening, buffer_of, buffers_of, frames_of_period, has_event, initialize_plan}
use Rattle.ca_machine.specs.Openings.{is_cross_process, is_kept, period_of, words_stored}
use Rattle.reply_payload.specs.declared.packets.TheConstants.{MOST_FRAMES}
use Rattle.service_book.specs.declared.book.Book.{Book}
use Rattle.service_book.specs.declared.opening.Opening.{Opening as Asked}
use Rattle.service_book.specs.declared.opening.OpeningPlan.{OpeningPlan}
use Rattle.service_book.specs.declared.opening.Sizes.{Sizes}

-- the arguments of an Initialize, as the machine has them
abbrev pub arguments : Asked → Opening
arguments x = record {
  share = x.share;
  flags = x.flags;
  duration = x.duration;
  period = x.period;
  format = x.format.now;
  session = x.session.0;
}

-- the format that was asked for, which the endpoint's admits
pub record HasFormat (endpoint : Format) (x : Asked) (format : Format) : Type 0 where
  pub spells : format ≡ spelled x.format.now
  pub valid : IsValid format
  pub channels : format.channels ≡ endpoint.channels
  pub rate : is_exclusive x.share ≡ false → format.rate ≡ endpoint.rate

-- an exclusive stream has a period and a buffer that there are; if it is driven by events, they last as long
pub record IsInRange (x : Asked) : Type 0 where
  pub period : is_exclusive x.share ≡ true → x.period ≤ MAX_EXCLUSIVE_PERIOD
  pub duration : is_exclusive x.share ≡ true → x.duration ≤ MAX_EXCLUSIVE_BUFFER
  pub same : is_exclusive x.share ≡ true → has_event x.flags ≡ true → x.duration ≡ x.period

-- the sizes of a stream of this kind that is opened
pub record AreSizes (x : Asked) (kind : StreamKind) (sizes : Sizes) : Type 0 where
  pub latency : sizes.latency ≡ period_of (arguments x)
  pub period : sizes.period ≡ frames_of_period (arguments x)
  pub some_period : 1 ≤ sizes.period
  pub longest : sizes.period ≤ MOST_FRAMES
  pub buffer : sizes.buffer ≡ buffer_of (arguments x)
  pub whole : sizes.period ≤ sizes.buffer
  pub words : sizes.words ≡ words_stored kind (buffers_of (arguments x) * sizes.buffer) sizes.period
  pub some : 1 ≤ sizes.words
  pub most : sizes.words ≤ MAX_STORE_WORDS

-- the table of an Initialize
abbrev pub opening_plan : Asked → State → Plan
opening_plan x st = initialize_plan st x.conn.0 x.client.0 (arguments x)

-- what names the session of a stream that a call of this connection opens on an endpoint
abbrev pub key_by : Asked → Connection → EndpointNo → SessionKey
key_by x c endpoint =
    if is_cross_process x.flags
    then record { endpoint = endpoint; process = 0; guid = x.session; name = 42 ∷ [] }
    else record { endpoint = endpoint; process = c.process; guid = x.session; name = c.name }

-- a stream joins its session, which is a new one if there is none, and gains are to be computed
pub record Joins (x : Asked) (plan : OpeningPlan) (old : Book) (session : SessionNo) (new : Book) : Type 0 where
  pub number : session.0 ≡ number_joined plan.key old.sessions
  pub sessions : new.sessions ≡ joined plan.key None (is_kept x.flags) plan.format.channels old.sessions
  pub rest : new ≡ record old { sessions = new.sessions; levels_changed = true }
