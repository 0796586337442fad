-- The numbers of the result codes (HRESULTs of winerror.h and audioclient.h; those from 0xA0040001 on are this
-- project's own).
use Rattle.std.specs.Prelude.{◌≡◌, ℕ, List, [], ◌∷◌}
use Rattle.std.specs.List.{AllByRecursion}
use Rattle.ca_base.specs.declared.codes.Hr.{Hr}
use Rattle.ca_base.specs.declared.codes.TheConstants.Hr as hr

-- each code beside its number
abbrev pub code_table : List (Hr × ℕ)
code_table =
    (hr.S_OK, 0)
    ∷ (hr.S_FALSE, 1)
    ∷ (hr.S_BUFFER_EMPTY, 0x08890001)
    ∷ (hr.E_NOTIMPL, 0x80004001)
    ∷ (hr.E_NOINTERFACE, 0x80004002)
    ∷ (hr.E_HANDLE, 0x80070006)
    ∷ (hr.E_OUTOFMEMORY, 0x8007000E)
    ∷ (hr.E_INVALIDARG, 0x80070057)
    ∷ (hr.E_NOTFOUND, 0x80070490)
    ∷ (hr.NOT_INITIALIZED, 0x88890001)
    ∷ (hr.ALREADY_INITIALIZED, 0x88890002)
    ∷ (hr.WRONG_ENDPOINT_TYPE, 0x88890003)
    ∷ (hr.DEVICE_INVALIDATED, 0x88890004)
    ∷ (hr.NOT_STOPPED, 0x88890005)
    ∷ (hr.BUFFER_TOO_LARGE, 0x88890006)
    ∷ (hr.OUT_OF_ORDER, 0x88890007)
    ∷ (hr.UNSUPPORTED_FORMAT, 0x88890008)
    ∷ (hr.INVALID_SIZE, 0x88890009)
    ∷ (hr.DEVICE_IN_USE, 0x8889000A)
    ∷ (hr.BUFFER_OPERATION_PENDING, 0x8889000B)
    ∷ (hr.EXCLUSIVE_MODE_NOT_ALLOWED, 0x8889000E)
    ∷ (hr.SERVICE_NOT_RUNNING, 0x88890010)
    ∷ (hr.EVENTHANDLE_NOT_EXPECTED, 0x88890011)
    ∷ (hr.BUFDURATION_PERIOD_NOT_EQUAL, 0x88890013)
    ∷ (hr.EVENTHANDLE_NOT_SET, 0x88890014)
    ∷ (hr.BUFFER_SIZE_ERROR, 0x88890016)
    ∷ (hr.INVALID_DEVICE_PERIOD, 0x88890020)
    ∷ (hr.KEEPER_FAULT, 0xA0040001)
    ∷ (hr.CLIENTS_FULL, 0xA0040002)
    ∷ (hr.SESSIONS_FULL, 0xA0040003)
    ∷ (hr.ENDPOINTS_FULL, 0xA0040004)
    ∷ (hr.WORN, 0xA0040005)
    ∷ []

-- each constant has the number of its row
abbrev pub CodesAreTabled : Type 0
CodesAreTabled = AllByRecursion (λ row. row.0.0 ≡ row.1) code_table
