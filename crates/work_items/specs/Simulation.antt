-- One machine's runs as runs of another: a compiled kernel's, as runs of its program.
use Rattle.std.specs.Prelude.{◌≡◌, ℕ, zero, suc, ℤ, List, [], ◌∷◌, ◌++◌, Option, None, Some, slice_get}
use Rattle.work_items.specs.Memory.{Memory, Access, loaded}
use Rattle.work_items.specs.Items.{Next, Ends, Waits, Goes, Begins, Loads, Stores, Machine, World, Fault, Move, Step}
use Rattle.work_items.specs.Items.{Release, IsWaiting, fault_of, moved}
use Rattle.work_items.specs.Runs.{world_after, IsRun, turns}
use Rattle.work_items.specs.Clean.{IsDone, IsRange, IsParted, ExceedsTurns}

-- what can be seen of a move
pub data Event : Type 0 where
  Loaded : (item site : ℕ) (access : Access) (bytes : List ℕ) → Event
  Stored : (item site object : ℕ) (index : ℤ) (bytes : List ℕ) → Event
  Faulted : (item site : ℕ) → Event
  Began : (item : ℕ) → Event
  Freed : (group : ℕ) → Event

-- of a step whose access is in range
abbrev pub events_of_next : {S : Type 0} → Memory → ℕ → Next S → List Event
events_of_next memory item (Loads site access after) = Loaded item site access (loaded memory access) ∷ []
events_of_next memory item (Stores site object index bytes after) = Stored item site object index bytes ∷ []
events_of_next memory item (Begins after) = Began item ∷ []
events_of_next memory item _ = []

-- the events of a step, or its fault where its access is out of range
abbrev pub events_of_access : ℕ → List Event → Option ℕ → List Event
events_of_access item events None = events
events_of_access item events (Some site) = Faulted item site ∷ []

-- the events of the step of an item, if there is one
abbrev pub events_of_step : {S P : Type 0} → Machine S P → Memory → ℕ → Option S → List Event
events_of_step machine memory item None = []
events_of_step machine memory item (Some state) =
    events_of_access item (events_of_next memory item (machine.next state)) (fault_of memory (machine.next state))

-- the events of a move
abbrev pub events_of : {S P : Type 0} → Machine S P → World S → Move → List Event
events_of machine world (Step item) = events_of_step machine world.memory item (slice_get world.items item)
events_of machine world (Release group) = Freed group ∷ []

-- the accesses, turns and releases of a run, in order, and its fault
abbrev pub trace : {S P : Type 0} → Machine S P → World S → List Move → List Event
trace machine world [] = []
trace machine world (move ∷ moves) = events_of machine world move ++ trace machine (moved machine world move) moves

-- so many steps with no access that begin no iteration lead from one state to the other
abbrev pub GoesIn : {S : Type 0} → (S → Next S) → ℕ → S → S → Type 0
GoesIn next zero from to = from ≡ to
GoesIn {S} next (suc n) from to = (mid : S) × (next from ≡ Goes mid) × GoesIn next n mid to

-- the steps have one label, and lead to states that are related
pub data SameLabel {S T : Type 0} (R : S → T → Type 0) : Next S → Next T → Type 0 where
  both_end : SameLabel R Ends Ends
  both_wait : {site : ℕ} {s : S} {t : T} → R s t → SameLabel R (Waits site s) (Waits site t)
  both_go : {s : S} {t : T} → R s t → SameLabel R (Goes s) (Goes t)
  both_begin : {s : S} {t : T} → R s t → SameLabel R (Begins s) (Begins t)
  both_load : {site : ℕ} {access : Access} {f : List ℕ → S} {g : List ℕ → T} →
      ((bytes : List ℕ) → R (f bytes) (g bytes)) → SameLabel R (Loads site access f) (Loads site access g)
  both_store : {site object : ℕ} {index : ℤ} {bytes : List ℕ} {s : S} {t : T} → R s t →
      SameLabel R (Stores site object index bytes s) (Stores site object index bytes t)

-- a step of the one machine is matched in this state of the other, where steps with no access may lead to it
abbrev pub MatchesAt : {S T Q : Type 0} → Machine T Q → (S → T → Type 0) → Q → Next S → T → Type 0
MatchesAt machine R point (Goes after) state = R after state
MatchesAt machine R point next state =
    SameLabel R next (machine.next state) × (IsWaiting next → machine.point state ≡ point)

-- each step of a state is matched from each related state
pub record Simulates {S P T Q : Type 0} (machine : Machine S P) (other : Machine T Q) (point_of : P → Q) (R : S → T →
    Type 0) : Type 0 where
  pub same_group : (item : ℕ) → other.group item ≡ machine.group item
  pub matches : (s : S) (t : T) → R s t → (n : ℕ) × (t' : T) × GoesIn other.next n t t' ×
      MatchesAt other R (point_of (machine.point s)) (machine.next s) t'

-- the same, counted: states that are related for one move more are matched, and lead to states that are related for
-- one move fewer
pub record SimulatesFor {S P T Q : Type 0} (machine : Machine S P) (other : Machine T Q) (point_of : P → Q) (R : ℕ →
    S → T → Type 0) : Type 0 where
  pub same_group : (item : ℕ) → other.group item ≡ machine.group item
  pub fewer : (n : ℕ) (s : S) (t : T) → R (suc n) s t → R n s t
  pub matches : (n : ℕ) (s : S) (t : T) → R (suc n) s t → (k : ℕ) × (t' : T) × GoesIn other.next k t t' ×
      MatchesAt other (R n) (point_of (machine.point s)) (machine.next s) t'

-- so many moves, and one for each move of a list
abbrev pub moves_and : {A : Type 0} → List A → ℕ → ℕ
moves_and [] n = n
moves_and (move ∷ moves) n = suc (moves_and moves n)

-- the items at one place are related, or there is none on either side
abbrev pub RelatedAt : {S T : Type 0} → (S → T → Type 0) → Option S → Option T → Type 0
RelatedAt R None None = Unit {0}
RelatedAt R (Some s) (Some t) = R s t
RelatedAt R None (Some t) = ⊥
RelatedAt R (Some s) None = ⊥

-- the worlds have one memory and fault, and until there is one, related items
pub record AreRelated {S T : Type 0} (R : S → T → Type 0) (world : World S) (other : World T) : Type 0 where
  pub memory : other.memory ≡ world.memory
  pub fault : other.fault ≡ world.fault
  pub items : world.fault ≡ None → (item : ℕ) → RelatedAt R (slice_get world.items item) (slice_get other.items item)

-- a run of the other machine that is seen alike
pub record IsMatched {S P T Q : Type 0} (machine : Machine S P) (other : Machine T Q) (R : S → T →
    Type 0) (world : World S) (moves : List Move) (world' : World T) : Type 0 where
  pub moves' : List Move
  pub run : IsRun other world' moves'
  pub related : AreRelated R (world_after machine world moves) (world_after other world' moves')
  pub same_trace : trace other world' moves' ≡ trace machine world moves
  pub same_turns : turns other world' moves' ≡ turns machine world moves

-- the outcomes of the one machine are outcomes of the other
pub record HasOutcomesOf {S P T Q : Type 0} (machine : Machine S P) (can_come : S → P →
    Type 0) (start : World S) (other : Machine T Q) (can_come' : T → Q → Type 0) (start' : World T) : Type 0 where
  pub done : (memory : Memory) → IsDone machine start memory → IsDone other start' memory
  pub range : (fault : Fault) → IsRange machine start fault → IsRange other start' fault
  pub parted : (item site : ℕ) → IsParted machine can_come start item site → IsParted other can_come' start' item site
  pub turns : (bound : ℕ) → ExceedsTurns machine start bound → ExceedsTurns other start' bound
