use Rattle.std.proofs.Common.{◌≡◌, map, take}
use Rattle.ca_machine.specs.Notices.{noted_endpoint}
use Rattle.service_book.proofs.book.Book.note_endpoints.Given as goal

-- the endpoints so far are noted
abbrev pub invariant-endpoints : goal.invariant-endpoints
invariant-endpoints l = l.n ≡ record l.initial.n { endpoints = map noted_endpoint (take l.e-index l.endpoints) }
