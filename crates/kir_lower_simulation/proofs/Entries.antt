-- Where a switch may be entered: nowhere, or at one of its arms.
use Rattle.std.proofs.Common.{ℕ, suc, ℤ, List}
use Rattle.std.proofs.Common.{Bool as Test}
use Rattle.std.specs.Prelude.{true, false, if◌then◌else◌}
use Rattle.cl_model.specs.Tree.{Statements, Arms, no_arm, arm}
use Rattle.cl_model.specs.Steps.{has_label, Entry, nowhere, entry, labelled, defaulted, or_else, entry_of}

-- an entry of arms, the first of which has this number
pub data Enters : ℕ → Arms → Entry → Type 0 where
  enters_nowhere : {k : ℕ} {arms : Arms} → Enters k arms nowhere
  enters_here : {k : ℕ} {arms : Arms} → Enters k arms (entry k arms)
  enters_later : {k : ℕ} {labels : List ℤ} {other : Test} {body : Statements} {rest : Arms} {e : Entry} →
      Enters (suc k) rest e → Enters k (arm labels other body rest) e

either_enters : (b : Test) (k : ℕ) (labels : List ℤ) (other : Test) (body : Statements) (rest : Arms) (e : Entry) →
    Enters (suc k) rest e → Enters k (arm labels other body rest) (if b then entry k (arm labels other body rest) else
    e)
either_enters true k labels other body rest e h = enters_here
either_enters false k labels other body rest e h = enters_later h

labelled_enters : (v : ℤ) (k : ℕ) (arms : Arms) → Enters k arms (labelled v k arms)
labelled_enters v k no_arm = enters_nowhere
labelled_enters v k (arm labels other body rest) =
    either_enters (has_label v labels) k labels other body rest _ (labelled_enters v (suc k) rest)

defaulted_enters : (k : ℕ) (arms : Arms) → Enters k arms (defaulted k arms)
defaulted_enters k no_arm = enters_nowhere
defaulted_enters k (arm labels other body rest) =
    either_enters other k labels other body rest _ (defaulted_enters (suc k) rest)

or_enters : (k : ℕ) (arms : Arms) (e e' : Entry) → Enters k arms e → Enters k arms e' → Enters k arms (or_else e e')
or_enters k arms nowhere e' h h' = h'
or_enters k arms (entry j rest) e' h h' = h

-- that of a value
pub value_enters : (v : ℤ) (arms : Arms) → Enters 0 arms (entry_of v arms)
value_enters v arms =
    or_enters 0 arms (labelled v 0 arms) (defaulted 0 arms) (labelled_enters v 0 arms) (defaulted_enters 0 arms)
