-- The lines of single steps name no cell but those that they are given and those that they make.
use Rattle.std.proofs.Common.{◌≡◌, ℕ, ◌+◌, ◌<◌, ◌≤◌, ℤ, List, [], ◌∷◌, length, Option, Some, None, refl, subst, arith}
use Rattle.std.proofs.Common.{true, false, if◌then◌else◌}
use Rattle.std.proofs.Common.{Bool as Test}
use Rattle.std.specs.Prelude.{nat_eq}
use Rattle.std.proofs.lemmas.Option.{none-some, same_Some, slice_get_within}
use Rattle.wg_num.specs.declared.types.IntType.{IntType}
use Rattle.wg_num.specs.declared.types.IntType.TheVariants.{Int}
use Rattle.wg_num.specs.declared.types.Bin.{Bin}
use Rattle.cl_model.specs.Tree as tree
use Rattle.cl_model.specs.Tree.{Action, Arms, no_arm, arm, Function, Program}
use Rattle.cl_model.specs.Valid.{ActionFits, binary_type, promoted}
use Rattle.kir.specs.declared.line.Atom.{Atom}
use Rattle.kir.specs.declared.line.Atom.TheVariants.{Cell as CellAtom}
use Rattle.kir.specs.Tree.{Work, Lines, NoLine, SetThen, IfThen, joined_to, OfValue, OfFlag}
use Rattle.kir.specs.Live.{reads, some_reads, work_reads}
use Rattle.kir_lower.specs.declared.places.Value.{Value}
use Rattle.kir_lower.specs.Made.{Made, Instance, with_cell, next_cell}
use Rattle.kir_lower.specs.Actions.{first, second, atoms_of, changed, action_code, initial_lines, opened, is_none}
use Rattle.kir_lower.specs.Actions.{guarded_before, outward, round_code, labels_code, all_labels_code, selected}
use Rattle.kir_lower.specs.Actions.{fallen_code}
use Rattle.kir_lower.specs.Code.{before_rest, Guarded, entry_code}
use Rattle.kir_lower_shape.proofs.Quiet.{or_parts, or_false}
use Rattle.kir_lower_shape.proofs.Steps.{IsFree, first_quiet, second_quiet, either_quiet}
use Rattle.kir_lower_shape.proofs.Absent.{Absent, absent_none, absent_then, absent_set, absent_load, absent_store}
use Rattle.kir_lower_shape.proofs.Absent.{absent_if, absent_loop, next_more, IsOut, out_within}

-- the variable that an action names, if it names one
abbrev pub action_uses : Action → Option ℕ
action_uses (tree.Variable x) = Some x
action_uses (tree.Set x) = Some x
action_uses (tree.Change x op of back old) = Some x
action_uses (tree.Literal value of) = None
action_uses (tree.Unary op of) = None
action_uses (tree.Binary op of) = None
action_uses (tree.Builtin g of) = None
action_uses (tree.Convert to) = None
action_uses (tree.Ask what) = None
action_uses tree.Second = None
action_uses tree.Truth = None
action_uses (tree.Decided answer) = None
action_uses (tree.Load site element root) = None
action_uses (tree.Store site element root) = None

-- it is one of the function's
pub action_within : (program : Program) (f : Function) (action : Action) (ts : List IntType) (t : IntType) →
    ActionFits program f action ts t → (x : ℕ) → action_uses action ≡ Some x → x < length f.variables
action_within program f (tree.Variable y) [] t h x e =
    subst (λ z. z < length f.variables) (same_Some y x e) (slice_get_within f.variables y h.0 h.1)
action_within program f (tree.Variable y) (s ∷ ts) t h x e = absurd h
action_within program f (tree.Set y) [] t h x e = absurd h
action_within program f (tree.Set y) (s ∷ []) t h x e =
    subst (λ z. z < length f.variables) (same_Some y x e) (slice_get_within f.variables y h.0.0 h.0.1)
action_within program f (tree.Set y) (s ∷ u ∷ ts) t h x e = absurd h
action_within program f (tree.Change y op of back old) [] t h x e = absurd h
action_within program f (tree.Change y op of back old) (s ∷ []) t h x e = absurd h
action_within program f (tree.Change y op of back old) (s ∷ u ∷ []) t h x e =
    subst (λ z. z < length f.variables) (same_Some y x e) (slice_get_within f.variables y h.0.0 h.0.1)
action_within program f (tree.Change y op of back old) (s ∷ u ∷ v ∷ ts) t h x e = absurd h
action_within program f (tree.Literal value of) ts t h x e = absurd (none-some x e)
action_within program f (tree.Unary op of) ts t h x e = absurd (none-some x e)
action_within program f (tree.Binary op of) ts t h x e = absurd (none-some x e)
action_within program f (tree.Builtin g of) ts t h x e = absurd (none-some x e)
action_within program f (tree.Convert to) ts t h x e = absurd (none-some x e)
action_within program f (tree.Ask what) ts t h x e = absurd (none-some x e)
action_within program f tree.Second ts t h x e = absurd (none-some x e)
action_within program f tree.Truth ts t h x e = absurd (none-some x e)
action_within program f (tree.Decided answer) ts t h x e = absurd (none-some x e)
action_within program f (tree.Load site element root) ts t h x e = absurd (none-some x e)
action_within program f (tree.Store site element root) ts t h x e = absurd (none-some x e)

-- labels make cells
pub labels_up : (site : ℕ) (value : Value) (chosen k : ℕ) (labels : List ℤ) (m : Made) →
    next_cell m ≤ next_cell (labels_code site value chosen k labels m).made
labels_up site value chosen k [] m = omega arith
labels_up site value chosen k (label ∷ labels) m =
    let one = next_more m OfValue Int in
    let up = labels_up site value chosen k labels (with_cell m OfValue Int) in
    omega (arith, one, up)

pub all_labels_up : (site : ℕ) (value : Value) (chosen k : ℕ) (arms : Arms) (m : Made) →
    next_cell m ≤ next_cell (all_labels_code site value chosen k arms m).made
all_labels_up site value chosen k no_arm m = omega arith
all_labels_up site value chosen k (arm labels other body rest) m =
    let a = labels_up site value chosen k labels m in
    let b = all_labels_up site value chosen (k + 1) rest (labels_code site value chosen k labels m).made in
    omega (arith, a, b)

module _ (c : ℕ) where
  -- the next cell is one of those that are made
  pub fresh : (m : Made) (b : ℕ) → next_cell m < b → IsOut c (next_cell m) b → nat_eq c (next_cell m) ≡ false
  fresh m b h out = out (next_cell m) (omega arith) h

  -- three new cells, and two
  pub three_out : (m : Made) (s t u : IntType) →
      IsOut c (next_cell m) (next_cell (with_cell (with_cell (with_cell m OfValue s) OfValue t) OfValue u))
      → (nat_eq c (next_cell m) ≡ false) × (nat_eq c (next_cell (with_cell m OfValue s)) ≡ false) ×
      (nat_eq c (next_cell (with_cell (with_cell m OfValue s) OfValue t)) ≡ false)
  three_out m s t u out =
      let one = next_more m OfValue s in
      let two = next_more (with_cell m OfValue s) OfValue t in
      let three = next_more (with_cell (with_cell m OfValue s) OfValue t) OfValue u in (
        out (next_cell m) (omega arith) (omega (arith, one, two, three)),
        out (next_cell (with_cell m OfValue s)) (omega (arith, one)) (omega (arith, one, two, three)),
        out (next_cell (with_cell (with_cell m OfValue s) OfValue t)) (omega (arith, one, two)) (omega (
          arith,
          one,
          two,
          three,
        )),
      )

  pub two_out : (m : Made) (s t : IntType) →
      IsOut c (next_cell m) (next_cell (with_cell (with_cell m OfValue s) OfValue t)) →
      (nat_eq c (next_cell m) ≡ false) × (nat_eq c (next_cell (with_cell m OfValue s)) ≡ false)
  two_out m s t out =
      let one = next_more m OfValue s in
      let two = next_more (with_cell m OfValue s) OfValue t in (
        out (next_cell m) (omega arith) (omega (arith, one, two)),
        out (next_cell (with_cell m OfValue s)) (omega (arith, one)) (omega (arith, one, two)),
      )

  -- the new value of a compound assignment, before other lines
  pub changed_absent : (op : Bin) (of back : IntType) (was by : Atom) (m : Made) (after : Lines) →
      reads c was ≡ false → reads c by ≡ false → IsOut c (next_cell m) (next_cell (changed op of back was by m).made)
      → (reads c (changed op of back was by m).value.atom ≡ false → Absent c after) →
      Absent c (joined_to (changed op of back was by m).lines after)
  changed_absent op of back was by m after r s out h =
      let e = three_out m of (binary_type op of) back out in
      absent_set c _ _ _ r e.0 (absent_set c _ _ _ (or_false _ _ e.0 s) e.1 (absent_set c _ _ _ e.1 e.2 (h e.2)))

  one_set : (to : ℕ) (work : Work) → work_reads c work ≡ false → nat_eq c to ≡ false → Absent c (SetThen to work NoLine)
  one_set to work r e = absent_set c to work NoLine r e (absent_none c)

  -- a computed value
  computed_absent : (m : Made) (work : Work) (of : IntType) → work_reads c work ≡ false →
      IsOut c (next_cell m) (next_cell (with_cell m OfValue of)) → Absent c (SetThen (next_cell m) work NoLine) ×
      (nat_eq c (next_cell m) ≡ false)
  computed_absent m work of r out =
      let one = next_more m OfValue of in
      let e = fresh m (next_cell (with_cell m OfValue of)) (omega (arith, one)) out in
      (one_set (next_cell m) work r e, e)

  -- the step of an action
  pub action_absent : (here : Instance) (action : Action) (values : List Value) (m : Made) →
      ((x : ℕ) → action_uses action ≡ Some x → nat_eq c (here.base + x) ≡ false) →
      some_reads c (atoms_of values) ≡ false
      → IsOut c (next_cell m) (next_cell (action_code here action values m).made) →
      Absent c (action_code here action values m).lines ×
      (reads c (action_code here action values m).value.atom ≡ false)
  action_absent here (tree.Literal v of) values m vars r out = (absent_none c, refl)
  action_absent here (tree.Variable x) values m vars r out = computed_absent m _ _ (vars x refl) out
  action_absent here (tree.Unary op of) values m vars r out = computed_absent m _ _ (first_quiet c values r) out
  action_absent here (tree.Binary op of) values m vars r out =
      computed_absent m _ _ (or_false _ _ (first_quiet c values r) (second_quiet c values r)) out
  action_absent here (tree.Builtin f of) values m vars r out = computed_absent m _ _ r out
  action_absent here (tree.Convert to) values m vars r out = computed_absent m _ _ (first_quiet c values r) out
  action_absent here (tree.Ask what) values m vars r out = computed_absent m _ _ (first_quiet c values r) out
  action_absent here tree.Second values m vars r out = (absent_none c, second_quiet c values r)
  action_absent here tree.Truth values m vars r out =
      computed_absent m _ _ (or_false _ _ (first_quiet c values r) refl) out
  action_absent here (tree.Decided answer) values m vars r out = (absent_none c, refl)
  action_absent here (tree.Set x) values m vars r out =
      (one_set _ _ (first_quiet c values r) (vars x refl), first_quiet c values r)
  action_absent here (tree.Change x op of back old) values m vars r out =
      let e = three_out m of (binary_type op of) back out in (
        changed_absent op of back (first values).atom (second values).atom m _ (first_quiet c values r)
            (second_quiet c values r) out (λ e. one_set _ _ e (vars x refl)),
        either_quiet c old (first values) (changed op of back (first values).atom (second values).atom m).value
            (first_quiet c values r) e.2,
      )
  action_absent here (tree.Load site element root) values m vars r out =
      let one = next_more m OfValue element in
      let e = fresh m (next_cell (with_cell m OfValue element)) (omega (arith, one)) out in
      (absent_load c site _ element _ _ NoLine (first_quiet c values r) e (absent_none c), e)
  action_absent here (tree.Store site element root) values m vars r out = (
    absent_store c site element _ _ _ NoLine (first_quiet c values r) (second_quiet c values r) (absent_none c),
    second_quiet c values r,
  )

  pub initial_absent : (site : ℕ) (element : IntType) (array k : ℕ) (values : List Value) →
      some_reads c (atoms_of values) ≡ false → Absent c (initial_lines site element array k values)
  initial_absent site element array k [] r = absent_none c
  initial_absent site element array k (v ∷ values) r =
      let p = or_parts (reads c v.atom) (some_reads c (atoms_of values)) r in
      absent_store c site element _ _ _ _ refl p.0 (initial_absent site element array (k + 1) values p.1)

  -- ---- ways out

  -- the cell of a construct: a new one where it has a way out
  pub opened_exit : (way : Option ℕ) (exit : ℕ) (m : Made) →
      IsOut c (next_cell m) (next_cell (opened way exit m).made) → Absent c (opened way exit m).lines ×
      IsFree c (opened way exit m).exit way
  opened_exit None exit m out = (absent_none c, λ site e. absurd (none-some site e))
  opened_exit (Some site) exit m out =
      let one = next_more m OfFlag Int in
      let e = fresh m (next_cell (with_cell m OfFlag Int)) (omega (arith, one)) out in
      (one_set _ _ refl e, λ s p. e)

  -- skipped lines
  pub guarded_absent : (site exit : ℕ) (inside rest : Lines) → nat_eq c exit ≡ false → Absent c inside →
      Absent c rest → Absent c (guarded_before site exit inside rest)
  guarded_absent site exit inside rest e h k = by_test (is_none inside)
    where
      by_test : (b : Test) → Absent c (if b then rest else IfThen site (CellAtom exit) NoLine inside rest)
      by_test true = k
      by_test false = absent_if c site (CellAtom exit) NoLine inside rest e (absent_none c) h k

  pub outward_absent : (way : Option ℕ) (exit outer : ℕ) (m : Made) → IsFree c exit way → IsFree c outer way →
      IsOut c (next_cell m) (next_cell (outward way exit outer m).made) → Absent c (outward way exit outer m).lines
  outward_absent None exit outer m free around out = absent_none c
  outward_absent (Some site) exit outer m free around out =
      let e = free site refl in
      let one = next_more m OfValue Int in
      let n = fresh m (next_cell (with_cell m OfValue Int)) (omega (arith, one)) out in
      absent_set c _ _ _ (or_false _ _ e refl) n (absent_if c site _ NoLine _ NoLine n (absent_none c)
      (one_set _ _ e (around site refl)) (absent_none c))

  pub round_absent : (site : ℕ) (test_first : Test) (way : Option ℕ) (exit : ℕ) (test : Lines) (answer : Value)
      (step body : Lines) (m : Made) → IsFree c exit way →
      IsOut c (next_cell m) (next_cell (round_code site test_first way exit test answer step body m).made)
      → Absent c test → reads c answer.atom ≡ false → Absent c step → Absent c body →
      Absent c (round_code site test_first way exit test answer step body m).lines
  round_absent site test_first None exit test answer step body m free out t r s b =
      absent_loop c site test_first test answer.atom _ NoLine t r (absent_then c body step b s) (absent_none c)
  round_absent site test_first (Some way) exit test answer step body m free out t r s b =
      let e = free way refl in
      let n = two_out m answer.of Int out in
      absent_loop c site test_first _ (CellAtom (next_cell m)) _ NoLine
      (absent_set c _ _ _ refl n.0 (absent_if c way (CellAtom exit) NoLine _ NoLine e (absent_none c)
      (absent_then c test _ t (one_set _ _ r n.0)) (absent_none c)))
      n.0
      (absent_then c body _ b (absent_set c _ _ _ (or_false _ _ e refl) n.1
      (absent_if c way _ _ NoLine _ n.1 (one_set _ _ refl e) (absent_none c)
      (guarded_absent way exit step NoLine e s (absent_none c)))))
      (absent_none c)

  -- ---- the arms of a switch

  pub labels_absent : (site : ℕ) (value : Value) (chosen k : ℕ) (labels : List ℤ) (m : Made) →
      reads c value.atom ≡ false → nat_eq c chosen ≡ false →
      IsOut c (next_cell m) (next_cell (labels_code site value chosen k labels m).made)
      → Absent c (labels_code site value chosen k labels m).lines
  labels_absent site value chosen k [] m r e out = absent_none c
  labels_absent site value chosen k (label ∷ labels) m r e out =
      let one = next_more m OfValue Int in
      let up = labels_up site value chosen k labels (with_cell m OfValue Int) in
      let n = out (next_cell m) (omega arith) (omega (arith, one, up)) in
      let p = labels_absent site value chosen k labels (with_cell m OfValue Int) r e
      (out_within c _ _ _ _ out (omega (arith, one)) (omega arith)) in
      absent_set c _ _ _ (or_false _ _ r refl) n (absent_if c site _ _ NoLine _ n (one_set _ _ refl e) (absent_none c)
      p)

  pub all_labels_absent : (site : ℕ) (value : Value) (chosen k : ℕ) (arms : Arms) (m : Made) →
      reads c value.atom ≡ false → nat_eq c chosen ≡ false →
      IsOut c (next_cell m) (next_cell (all_labels_code site value chosen k arms m).made)
      → Absent c (all_labels_code site value chosen k arms m).lines
  all_labels_absent site value chosen k no_arm m r e out = absent_none c
  all_labels_absent site value chosen k (arm labels other body rest) m r e out =
      let cl = labels_code site value chosen k labels m in
      let a = labels_up site value chosen k labels m in
      let b = all_labels_up site value chosen (k + 1) rest cl.made in
      absent_then c cl.lines _ (labels_absent site value chosen k labels m r e
      (out_within c _ _ _ _ out (omega arith) (omega (arith, b))))
      (all_labels_absent site value chosen (k + 1) rest cl.made r e
      (out_within c _ _ _ _ out (omega (arith, a)) (omega arith)))

  pub selected_absent : (site : ℕ) (value : Value) (arms : Arms) (m : Made) → reads c value.atom ≡ false →
      IsOut c (next_cell m) (next_cell (selected site value arms m).made)
      → Absent c (selected site value arms m).lines × (reads c (selected site value arms m).value.atom ≡ false)
  selected_absent site value arms m r out =
      let to = promoted value.of in
      let m1 = with_cell m OfValue to in
      let m2 = with_cell m1 OfValue Int in
      let v : Value = record { atom = CellAtom (next_cell m); of = to } in
      let one = next_more m OfValue to in
      let two = next_more m1 OfValue Int in
      let up = all_labels_up site v (next_cell m1) 0 arms m2 in
      let e0 = out (next_cell m) (omega arith) (omega (arith, one, two, up)) in
      let e1 = out (next_cell m1) (omega (arith, one)) (omega (arith, one, two, up)) in (
        absent_set c _ _ _ r e0 (absent_set c _ _ _ refl e1 (all_labels_absent site v (next_cell m1) 0 arms m2 e0 e1
            (out_within c _ _ _ _ out (omega (arith, one, two)) (omega arith)))),
        e1,
      )

  pub entry_absent : (chosen fallen : Atom) (k : ℕ) (m : Made) → reads c chosen ≡ false → reads c fallen ≡ false →
      IsOut c (next_cell m) (next_cell (entry_code chosen fallen k m).made)
      → Absent c (entry_code chosen fallen k m).lines × (reads c (entry_code chosen fallen k m).value.atom ≡ false)
  entry_absent chosen fallen k m r s out =
      let e = two_out m Int Int out in
      (absent_set c _ _ _ (or_false _ _ r refl) e.0 (one_set _ _ (or_false _ _ s e.0) e.1), e.1)

  pub fallen_absent : (way : Option ℕ) (exit : ℕ) (entered : Value) (m : Made) → IsFree c exit way →
      reads c entered.atom ≡ false → IsOut c (next_cell m) (next_cell (fallen_code way exit entered m).made)
      → Absent c (fallen_code way exit entered m).lines × (reads c (fallen_code way exit entered m).value.atom ≡ false)
  fallen_absent None exit entered m free r out = (absent_none c, r)
  fallen_absent (Some site) exit entered m free r out =
      let e = two_out m Int Int out in
      (absent_set c _ _ _ (free site refl) e.0 (one_set _ _ (or_false _ _ r e.0) e.1), e.1)

  pub before_rest_absent : (exit : ℕ) (declared : Test) (way : Option ℕ) (lines : Lines) (g : Guarded) →
      IsFree c exit way → Absent c lines → Absent c g.inside × Absent c g.rest
      → Absent c (before_rest exit declared way lines g).inside × Absent c (before_rest exit declared way lines g).rest
  before_rest_absent exit true way lines g free h k =
      (absent_then c lines _ h (absent_then c g.inside g.rest k.0 k.1), absent_none c)
  before_rest_absent exit false None lines g free h k = (absent_then c lines g.inside h k.0, k.1)
  before_rest_absent exit false (Some site) lines g free h k =
      (h, guarded_absent site exit g.inside g.rest (free site refl) k.0 k.1)

-- a way out makes a cell
pub opened_more : (way : Option ℕ) (exit : ℕ) (m : Made) (site : ℕ) → way ≡ Some site →
    next_cell m < next_cell (opened way exit m).made
opened_more None exit m site e = absurd (none-some site e)
opened_more (Some s) exit m site e = let one = next_more m OfFlag Int in omega (arith, one)
