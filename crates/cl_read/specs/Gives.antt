-- What a function of the parser returned, against what reading gives.
use Rattle.std.specs.Prelude.{◌≡◌, List, Result, Ok, Err, map}
use Rattle.std.specs.Borrow.{Bor}
use Rattle.cl_tree.specs.declared.terminal.Leaf.{Leaf}
use Rattle.cl_tree.specs.Nodes.{Spot}
use Rattle.cl_read.specs.declared.cursor.Fail.{Fail}
use Rattle.cl_read.specs.declared.cursor.Fail.TheVariants as fails
use Rattle.cl_read.specs.Reading.{Out, Got, Wrong, Deep, Listing, after, done, appended}

-- Want of memory says nothing.
abbrev pub Fails : {A : Type 0} → Fail → Out A → Type 0
Fails fails.Memory out = Unit {0}
Fails (fails.Syntax n) out = out ≡ Wrong n
Fails (fails.Nesting n) out = out ≡ Deep n

abbrev pub Gives : {X A : Type 0} → (X → A × List Leaf) → Result X Fail → Out A → Type 0
Gives view (Ok x) out = out ≡ Got (view x).0 (view x).1
Gives view (Err e) out = Fails e out

abbrev pub spot_of : Leaf → Spot
spot_of i = record { number = i.number; word = i.word }

abbrev pub spots : List (Bor Leaf) → List Spot
spots bs = map (λ b. spot_of b.now) bs

-- what was read before, and what is still read
abbrev pub with_front : Listing → Out Listing → Out Listing
with_front a o = after o (λ l. done (appended a l))
