-- Steps after steps: data that agree with them, and what they leave of the data.
use Rattle.std.proofs.Common.{◌≡◌, List, [], ◌∷◌, ◌++◌, refl}
use Rattle.ca_stage.specs.Stage.{BufferData}
use Rattle.buffer_ring.specs.declared.step.StoreStep.{StoreStep}
use Rattle.buffer_ring.specs.declared.step.StoreStep.TheVariants as step
use Rattle.period_engine.specs.Agreement.{Agrees, ArePacked, Layout, data_after, data_on}

pub data_after-append : (l : Layout) (xs ys : List StoreStep) (d : BufferData)
    → data_after l (xs ++ ys) d ≡ data_after l ys (data_after l xs d)
data_after-append l [] ys d = refl
data_after-append l (step.Acts found seen deed ∷ xs) ys d = data_after-append l xs ys (data_on l deed d)
data_after-append l (step.Reads place word ∷ xs) ys d = data_after-append l xs ys d

pub Agrees-append : (l : Layout) (xs ys : List StoreStep) (d : BufferData) → Agrees l xs d
    → Agrees l ys (data_after l xs d) → Agrees l (xs ++ ys) d
Agrees-append l [] ys d front rest = rest
Agrees-append l (step.Acts found seen deed ∷ xs) ys d front rest =
    (front.0, Agrees-append l xs ys (data_on l deed d) front.1 rest)
Agrees-append l (step.Reads place word ∷ xs) ys d front rest = (front.0, Agrees-append l xs ys d front.1 rest)

pub Agrees-front : (l : Layout) (xs ys : List StoreStep) (d : BufferData) → Agrees l (xs ++ ys) d → Agrees l xs d
Agrees-front l [] ys d all = tt
Agrees-front l (step.Acts found seen deed ∷ xs) ys d all = (all.0, Agrees-front l xs ys (data_on l deed d) all.1)
Agrees-front l (step.Reads place word ∷ xs) ys d all = (all.0, Agrees-front l xs ys d all.1)

pub Agrees-rest : (l : Layout) (xs ys : List StoreStep) (d : BufferData) → Agrees l (xs ++ ys) d
    → Agrees l ys (data_after l xs d)
Agrees-rest l [] ys d all = all
Agrees-rest l (step.Acts found seen deed ∷ xs) ys d all = Agrees-rest l xs ys (data_on l deed d) all.1
Agrees-rest l (step.Reads place word ∷ xs) ys d all = Agrees-rest l xs ys d all.1

pub ArePacked-append : (l : Layout) (xs ys : List StoreStep) → ArePacked l xs → ArePacked l ys → ArePacked l (xs ++ ys)
ArePacked-append l [] ys front rest = rest
ArePacked-append l (step.Acts found seen deed ∷ xs) ys front rest =
    (front.0, ArePacked-append l xs ys front.1 rest)
ArePacked-append l (step.Reads place word ∷ xs) ys front rest = ArePacked-append l xs ys front rest

pub ArePacked-front : (l : Layout) (xs ys : List StoreStep) → ArePacked l (xs ++ ys) → ArePacked l xs
ArePacked-front l [] ys all = tt
ArePacked-front l (step.Acts found seen deed ∷ xs) ys all = (all.0, ArePacked-front l xs ys all.1)
ArePacked-front l (step.Reads place word ∷ xs) ys all = ArePacked-front l xs ys all

pub ArePacked-rest : (l : Layout) (xs ys : List StoreStep) → ArePacked l (xs ++ ys) → ArePacked l ys
ArePacked-rest l [] ys all = all
ArePacked-rest l (step.Acts found seen deed ∷ xs) ys all = ArePacked-rest l xs ys all.1
ArePacked-rest l (step.Reads place word ∷ xs) ys all = ArePacked-rest l xs ys all
