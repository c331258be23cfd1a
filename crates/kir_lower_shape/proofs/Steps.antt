-- The lines of single steps set a cell before they read it.
use Rattle.std.proofs.Common.{◌≡◌, ℕ, ◌+◌, ℤ, List, [], ◌∷◌, Option, Some, None, refl, true, false, if◌then◌else◌}
use Rattle.std.proofs.Common.{Bool as Test}
use Rattle.std.specs.Prelude.{nat_eq, ◌&&◌}
use Rattle.std.proofs.lemmas.Option.{none-some}
use Rattle.wg_num.specs.declared.types.IntType.{IntType}
use Rattle.wg_num.specs.declared.types.Bin.{Bin}
use Rattle.cl_model.specs.Tree as tree
use Rattle.cl_model.specs.Tree.{Action, Arms, no_arm, arm}
use Rattle.cl_model.specs.Valid.{Scope, Has, ActionNames}
use Rattle.kir.specs.declared.line.Atom.{Atom}
use Rattle.kir.specs.declared.line.Atom.TheVariants.{Cell as CellAtom}
use Rattle.kir.specs.Tree.{Work, Lines, NoLine, SetThen, IfThen, joined_to, OfValue}
use Rattle.kir.specs.Live.{reads, some_reads, work_reads}
use Rattle.kir_lower.specs.declared.places.Value.{Value}
use Rattle.kir_lower.specs.Made.{Made, Instance, with_cell, next_cell}
use Rattle.kir_lower.specs.Actions.{Code, Steps, first, second, atoms_of, changed, action_code, initial_lines, opened}
use Rattle.kir_lower.specs.Actions.{is_none, guarded_before, settled, outward, round_code, label_code, labels_code}
use Rattle.kir_lower.specs.Actions.{all_labels_code, selected, fallen_code}
use Rattle.kir_lower.specs.Code.{before_rest, Guarded, is_guarded, entry_code, around_arm}
use Rattle.kir_lower_shape.proofs.Joined.{join_assoc}
use Rattle.kir_lower_shape.proofs.Quiet.{Quiet, or_parts, or_false, quiet_none, quiet_less, quiet_after, quiet_same}
use Rattle.kir_lower_shape.proofs.Quiet.{quiet_then, quiet_set, quiet_load, quiet_store, quiet_if, quiet_if_set}
use Rattle.kir_lower_shape.proofs.Quiet.{quiet_loop}

-- the cell is none of the variables that can be named
abbrev pub IsApart : ℕ → Instance → Scope → Type 0
IsApart c here scope = (x : ℕ) → Has scope x → nat_eq c (here.base + x) ≡ false

-- the cell is not the one that says which way out is pending, where there is a way out
abbrev pub IsFree : ℕ → ℕ → Option ℕ → Type 0
IsFree c exit way = (site : ℕ) → way ≡ Some site → nat_eq c exit ≡ false

pub first_quiet : (c : ℕ) (values : List Value) → some_reads c (atoms_of values) ≡ false →
    reads c (first values).atom ≡ false
first_quiet c [] h = refl
first_quiet c (v ∷ values) h = (or_parts (reads c v.atom) (some_reads c (atoms_of values)) h).0

pub second_quiet : (c : ℕ) (values : List Value) → some_reads c (atoms_of values) ≡ false →
    reads c (second values).atom ≡ false
second_quiet c [] h = refl
second_quiet c (v ∷ values) h = first_quiet c values (or_parts (reads c v.atom) (some_reads c (atoms_of values)) h).1

-- a computed value: its cell is set
pub computed_quiet : (c to : ℕ) (work : Work) → work_reads c work ≡ false →
    Quiet c (SetThen to work NoLine) (nat_eq c to)
computed_quiet c to work r = quiet_set c to work NoLine _ r (λ e. quiet_none c _ e)

-- the new value of a compound assignment, before other lines
pub changed_quiet : (c : ℕ) (op : Bin) (of back : IntType) (was by : Atom) (m : Made) (after : Lines) (live : Test) →
    reads c was ≡ false → reads c by ≡ false
    → (reads c (changed op of back was by m).value.atom ≡ false → Quiet c after live) →
    Quiet c (joined_to (changed op of back was by m).lines after) live
changed_quiet c op of back was by m after live r s h =
    quiet_set c _ _ _ live r (λ e. quiet_set c _ _ _ live (or_false _ _ e s) (λ e2. quiet_set c _ _ _ live e2 h))

-- a value that is one of two
pub either_quiet : (c : ℕ) (old : Test) (a b : Value) → reads c a.atom ≡ false → reads c b.atom ≡ false →
    reads c (if old then a else b).atom ≡ false
either_quiet c true a b h k = h
either_quiet c false a b h k = k

-- the step of an action
pub action_quiet : (c : ℕ) (here : Instance) (scope : Scope) (action : Action) (values : List Value) (m : Made) →
    IsApart c here scope → ActionNames scope action → some_reads c (atoms_of values) ≡ false
    → Quiet c (action_code here action values m).lines (reads c (action_code here action values m).value.atom)
action_quiet c here scope (tree.Literal v of) values m apart_ named r = quiet_none c _ refl
action_quiet c here scope (tree.Variable x) values m apart_ named r = computed_quiet c _ _ (apart_ x named)
action_quiet c here scope (tree.Unary op of) values m apart_ named r = computed_quiet c _ _ (first_quiet c values r)
action_quiet c here scope (tree.Binary op of) values m apart_ named r =
    computed_quiet c _ _ (or_false _ _ (first_quiet c values r) (second_quiet c values r))
action_quiet c here scope (tree.Builtin f of) values m apart_ named r = computed_quiet c _ _ r
action_quiet c here scope (tree.Convert to) values m apart_ named r = computed_quiet c _ _ (first_quiet c values r)
action_quiet c here scope (tree.Ask what) values m apart_ named r = computed_quiet c _ _ (first_quiet c values r)
action_quiet c here scope tree.Second values m apart_ named r = quiet_none c _ (second_quiet c values r)
action_quiet c here scope tree.Truth values m apart_ named r =
    computed_quiet c _ _ (or_false _ _ (first_quiet c values r) refl)
action_quiet c here scope (tree.Decided answer) values m apart_ named r = quiet_none c _ refl
action_quiet c here scope (tree.Set x) values m apart_ named r =
    quiet_set c _ _ NoLine _ (first_quiet c values r) (λ e. quiet_none c _ (first_quiet c values r))
action_quiet c here scope (tree.Change x op of back old) values m apart_ named r =
    changed_quiet c op of back (first values).atom (second values).atom m _ _ (first_quiet c values r)
    (second_quiet c values r)
    (λ e. quiet_set c _ _ NoLine _ e
    (λ e2. quiet_none c _ (either_quiet c old (first values)
    (changed op of back (first values).atom (second values).atom m).value (first_quiet c values r) e)))
action_quiet c here scope (tree.Load site element root) values m apart_ named r =
    quiet_load c site _ element _ _ NoLine _ (first_quiet c values r) (λ e. quiet_none c _ e)
action_quiet c here scope (tree.Store site element root) values m apart_ named r =
    quiet_store c site element _ _ _ NoLine _ (first_quiet c values r) (second_quiet c values r)
    (quiet_none c _ (second_quiet c values r))

pub initial_quiet : (c site : ℕ) (element : IntType) (array k : ℕ) (values : List Value) →
    some_reads c (atoms_of values) ≡ false → Quiet c (initial_lines site element array k values) false
initial_quiet c site element array k [] r = quiet_none c false refl
initial_quiet c site element array k (v ∷ values) r =
    let p = or_parts (reads c v.atom) (some_reads c (atoms_of values)) r in
    quiet_store c site element _ _ _ _ false refl p.0 (initial_quiet c site element array (k + 1) values p.1)

-- ---- ways out

-- behind the cell of a construct
pub opened_quiet : (c : ℕ) (way : Option ℕ) (exit : ℕ) (m : Made) (lines : Lines) (after : Test) →
    (IsFree c (opened way exit m).exit way → Quiet c lines after) →
    Quiet c (joined_to (opened way exit m).lines lines) after
opened_quiet c None exit m lines after h = h (λ site e. absurd (none-some site e))
opened_quiet c (Some site) exit m lines after h = quiet_set c _ _ lines after refl (λ e. h (λ s p. e))

-- skipped lines
pub guarded_quiet : (c site exit : ℕ) (inside rest : Lines) → nat_eq c exit ≡ false → Quiet c inside false →
    Quiet c rest false → Quiet c (guarded_before site exit inside rest) false
guarded_quiet c site exit inside rest e h k = by_test (is_none inside)
  where
    by_test : (b : Test) → Quiet c (if b then rest else IfThen site (CellAtom exit) NoLine inside rest) false
    by_test true = k
    by_test false = quiet_if c site (CellAtom exit) NoLine inside rest false e k (quiet_none c false refl) h

pub outward_quiet : (c : ℕ) (way : Option ℕ) (exit outer : ℕ) (m : Made) → IsFree c exit way →
    Quiet c (outward way exit outer m).lines false
outward_quiet c None exit outer m free = quiet_none c false refl
outward_quiet c (Some site) exit outer m free =
    let e = free site refl in
    quiet_set c _ _ _ false (or_false _ _ e refl) (λ e2. quiet_if c site _ NoLine _ NoLine false e2
    (quiet_none c false refl) (quiet_none c false refl)
    (quiet_set c _ _ NoLine false e (λ e3. quiet_none c false refl)))

settled_quiet : (c way exit : ℕ) (m : Made) (after : Lines) → nat_eq c exit ≡ false → Quiet c after false →
    Quiet c (joined_to (settled way exit m).lines after) false
settled_quiet c way exit m after e h =
    quiet_set c _ _ _ false (or_false _ _ e refl) (λ e2. quiet_if c way _ _ NoLine after false e2 h
    (quiet_set c _ _ NoLine false refl (λ e3. quiet_none c false refl)) (quiet_none c false refl))

pub round_quiet : (c site : ℕ) (test_first : Test) (way : Option ℕ) (exit : ℕ) (test : Lines) (answer : Value)
    (step body : Lines) (m : Made) → IsFree c exit way
    → Quiet c test (reads c answer.atom) → Quiet c step false → Quiet c body false →
    Quiet c (round_code site test_first way exit test answer step body m).lines false
round_quiet c site test_first None exit test answer step body m free t s b =
    quiet_loop c site test_first test answer.atom (joined_to body step) t
    (quiet_then c body step false false b (λ e. s))
round_quiet c site test_first (Some way) exit test answer step body m free t s b =
    let e = free way refl in
    quiet_loop c site test_first _ (CellAtom (next_cell m)) _
    (quiet_set c _ _ _ _ refl (λ e2. quiet_if_set c way (CellAtom exit) NoLine _ _ e (quiet_none c _ e2)
    (quiet_then c test _ (reads c answer.atom) _ t
    (λ r. quiet_set c _ _ NoLine _ r (λ e3. quiet_none c _ e3)))))
    (quiet_then c body _ false false b (λ x. settled_quiet c way exit (with_cell m OfValue answer.of) _ e
    (guarded_quiet c way exit step NoLine e s (quiet_none c false refl))))

-- ---- the arms of a switch

pub label_quiet : (c site : ℕ) (value : Value) (chosen k : ℕ) (label : ℤ) (m : Made) → reads c value.atom ≡ false →
    Quiet c (label_code site value chosen k label m).lines false
label_quiet c site value chosen k label m r =
    quiet_set c _ _ _ false (or_false _ _ r refl) (λ e. quiet_if c site _ _ NoLine NoLine false e
    (quiet_none c false refl) (quiet_set c _ _ NoLine false refl (λ e2. quiet_none c false refl))
    (quiet_none c false refl))

pub labels_quiet : (c site : ℕ) (value : Value) (chosen k : ℕ) (labels : List ℤ) (m : Made) →
    reads c value.atom ≡ false → Quiet c (labels_code site value chosen k labels m).lines false
labels_quiet c site value chosen k [] m r = quiet_none c false refl
labels_quiet c site value chosen k (label ∷ labels) m r =
    quiet_then c (label_code site value chosen k label m).lines _ false false
    (label_quiet c site value chosen k label m r) (λ e. labels_quiet c site value chosen k labels _ r)

pub all_labels_quiet : (c site : ℕ) (value : Value) (chosen k : ℕ) (arms : Arms) (m : Made) →
    reads c value.atom ≡ false → Quiet c (all_labels_code site value chosen k arms m).lines false
all_labels_quiet c site value chosen k no_arm m r = quiet_none c false refl
all_labels_quiet c site value chosen k (arm labels other body rest) m r =
    quiet_then c (labels_code site value chosen k labels m).lines _ false false
    (labels_quiet c site value chosen k labels m r) (λ e. all_labels_quiet c site value chosen (k + 1) rest _ r)

pub selected_quiet : (c site : ℕ) (value : Value) (arms : Arms) (m : Made) → reads c value.atom ≡ false →
    Quiet c (selected site value arms m).lines (reads c (selected site value arms m).value.atom)
selected_quiet c site value arms m r =
    quiet_set c _ _ _ _ r (λ e. quiet_set c _ _ _ _ refl
    (λ e2. quiet_after c _ false _ e2 (all_labels_quiet c site _ _ 0 arms _ e)))

pub entry_quiet : (c : ℕ) (chosen fallen : Atom) (k : ℕ) (m : Made) → reads c chosen ≡ false →
    reads c fallen ≡ false → Quiet c (entry_code chosen fallen k m).lines
    (reads c (entry_code chosen fallen k m).value.atom)
entry_quiet c chosen fallen k m r s =
    quiet_set c _ _ _ _ (or_false _ _ r refl) (λ e. quiet_set c _ _ NoLine _ (or_false _ _ s e)
    (λ e2. quiet_none c _ e2))

pub fallen_quiet : (c : ℕ) (way : Option ℕ) (exit : ℕ) (entered : Value) (m : Made) → IsFree c exit way →
    reads c entered.atom ≡ false →
    Quiet c (fallen_code way exit entered m).lines (reads c (fallen_code way exit entered m).value.atom)
fallen_quiet c None exit entered m free r = quiet_none c _ r
fallen_quiet c (Some site) exit entered m free r =
    quiet_set c _ _ _ _ (free site refl) (λ e. quiet_set c _ _ NoLine _ (or_false _ _ r e) (λ e2. quiet_none c _ e2))

pub around_quiet : (c site exit : ℕ) (way : Option ℕ) (ce : Code) (cb : Steps) → IsFree c exit way →
    Quiet c ce.lines (reads c ce.value.atom) → Quiet c cb.lines false →
    Quiet c (around_arm site exit way ce cb).lines (reads c (around_arm site exit way ce cb).value.atom)
around_quiet c site exit way ce cb free h k =
    let cf = fallen_code way exit ce.value cb.made in
    quiet_then c ce.lines _ (reads c ce.value.atom) (reads c cf.value.atom) h
    (λ r. quiet_if c site ce.value.atom cb.lines NoLine cf.lines (reads c cf.value.atom) r
    (fallen_quiet c way exit ce.value cb.made free r) k (quiet_none c false refl))

-- ---- statements in order

-- what is not live before the lines of statements: before the guarded ones, too, where all are guarded
abbrev pub ListQuiet : ℕ → Test → Guarded → Type 0
ListQuiet c true g = Quiet c g.inside false × Quiet c g.rest false
ListQuiet c false g = Quiet c (joined_to g.inside g.rest) false

pub list_joined : (c : ℕ) (guarded : Test) (g : Guarded) → ListQuiet c guarded g →
    Quiet c (joined_to g.inside g.rest) false
list_joined c true g h = quiet_then c g.inside g.rest false false h.0 (λ e. h.1)
list_joined c false g h = h

-- a statement before those behind it: it sets the cell where it declares its variable
pub before_quiet : (c exit : ℕ) (guarded declared : Test) (way : Option ℕ) (lines : Lines) (g : Guarded)
    (sets : Test) → IsFree c exit way → (declared ≡ false → sets ≡ false) → Quiet c lines sets
    → (sets ≡ false → ListQuiet c (is_guarded (guarded && declared) way guarded) g) →
    ListQuiet c guarded (before_rest exit (guarded && declared) way lines g)
before_quiet c exit true true way lines g sets free d h k =
    (quiet_then c lines _ sets false h (λ e. k e), quiet_none c false refl)
before_quiet c exit true false None lines g sets free d h k = let p =
    k (d refl) in (quiet_then c lines g.inside sets false h (λ e. p.0), p.1)
before_quiet c exit true false (Some site) lines g sets free d h k =
    let p =
    k (d refl) in (quiet_less c lines sets h, guarded_quiet c site exit g.inside g.rest (free site refl) p.0 p.1)
before_quiet c exit false declared None lines g sets free d h k =
    quiet_same c _ _ false (join_assoc lines g.inside g.rest) (quiet_then c lines _ sets false h (λ e. k e))
before_quiet c exit false declared (Some site) lines g sets free d h k =
    quiet_then c lines _ sets false h (λ e. let p = k e in
    guarded_quiet c site exit g.inside g.rest (free site refl) p.0 p.1)
