-- The parts of an endpoint's topology and how they are linked (DeviceTopology; that it is this chain of four is this
-- project's own).
use Rattle.std.specs.Prelude.{ℕ, ◌==◌, List, [], ◌∷◌, codes, Option, if◌then◌else◌}
use Rattle.std.specs.List.{find}
use Rattle.std.specs.Option.{option_map}
use Rattle.ca_base.specs.declared.ids.Flow.{Flow}
use Rattle.ca_base.specs.declared.ids.Flow.TheVariants.{Render, Capture}
use Rattle.topology.specs.declared.parts.PartKind.{PartKind}
use Rattle.topology.specs.declared.parts.PartKind.TheVariants.{Connector, Volume, Mute}
use Rattle.topology.specs.declared.parts.TheConstants.{FIRST_PART, VOLUME_PART, MUTE_PART, LAST_PART, OUTGOING}

-- a part: its number, what it is and its name (IPart::GetLocalId, IPart::GetPartType, IPart::GetName)
pub record Part : Type 0 where
  pub number : ℕ
  pub kind : PartKind
  pub name : List ℕ

-- the numbers of kinds (this project's own)
abbrev pub kind_number : PartKind → ℕ
kind_number Connector = 0
kind_number Volume = 1
kind_number Mute = 2

-- a part of these
abbrev pub part : ℕ → PartKind → List ℕ → Part
part number kind name = record { number = number; kind = kind; name = name }

-- the parts of an endpoint that plays, from the stream to the speaker, and of one that records, from the microphone to
-- the stream (IDeviceTopology::GetPartById; names are this project's own)
abbrev pub parts : Flow → List Part
parts Render =
    part FIRST_PART Connector (codes "stream")
    ∷ part VOLUME_PART Volume (codes "volume")
    ∷ part MUTE_PART Mute (codes "mute")
    ∷ part LAST_PART Connector (codes "speaker")
    ∷ []
parts Capture =
    part FIRST_PART Connector (codes "microphone")
    ∷ part VOLUME_PART Volume (codes "volume")
    ∷ part MUTE_PART Mute (codes "mute")
    ∷ part LAST_PART Connector (codes "stream")
    ∷ []

-- the part of a number, if there is one (IDeviceTopology::GetPartById)
abbrev pub part_at : Flow → ℕ → Option Part
part_at flow number = find (λ p. p.number == number) (parts flow)

-- which part sound leaves, and which it comes to: from each to the next (IConnector::GetConnectedTo)
abbrev pub links : List (ℕ × ℕ)
links = (FIRST_PART, VOLUME_PART) ∷ (VOLUME_PART, MUTE_PART) ∷ (MUTE_PART, LAST_PART) ∷ []

-- the part that sound of this one goes to, if there is one (IPart::EnumPartsOutgoing)
abbrev pub part_after : ℕ → Option ℕ
part_after number = option_map (λ link. link.1) (find (λ link. link.0 == number) links)

-- the part that sound of this one comes from, if there is one (IPart::EnumPartsIncoming)
abbrev pub part_before : ℕ → Option ℕ
part_before number = option_map (λ link. link.0) (find (λ link. link.1 == number) links)

-- the next part in a direction, if there is one
abbrev pub next_part : ℕ → ℕ → Option ℕ
next_part number direction = if direction == OUTGOING then part_after number else part_before number
