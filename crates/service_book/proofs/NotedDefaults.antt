-- The defaults that are noted, one after another.
use Rattle.std.proofs.Common.{◌≡◌, ℕ, zero, suc, ◌+◌, ◌<◌, List, ◌++◌, take, drop, set}
use Rattle.std.proofs.Common.{refl, arith}
use Rattle.ca_stage.specs.Stage.{empty_stage}
use Rattle.ca_stage.specs.Tally.{no_tally}
use Rattle.step_notices.specs.Notes.{no_notes}
use Rattle.ca_machine.specs.Notices.{default_number}
use Rattle.service_book.specs.BookState.{book_state}
use Rattle.service_book.specs.Telling.{defaults_of}
use Rattle.service_book.specs.declared.book.Book.{Book}

-- the defaults, as far as they are noted
abbrev pub defaults_to : ℕ → Book → List ℕ
defaults_to n book = take n (defaults_of book) ++ drop n no_notes.defaults

-- one more
pub one_default : (n : ℕ) (book : Book) → n < 6 →
    set (defaults_to n book) n (default_number (book_state book empty_stage no_tally) n) ≡ defaults_to (n + 1) book
one_default zero book few = refl
one_default (suc zero) book few = refl
one_default (suc (suc zero)) book few = refl
one_default (suc (suc (suc zero))) book few = refl
one_default (suc (suc (suc (suc zero)))) book few = refl
one_default (suc (suc (suc (suc (suc zero))))) book few = refl
one_default (suc (suc (suc (suc (suc (suc n)))))) book few = absurd (omega arith)
