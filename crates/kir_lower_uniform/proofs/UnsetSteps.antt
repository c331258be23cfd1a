-- The lines of single steps set no cell but those that they are given and those that they make.
use Rattle.std.proofs.Common.{◌≡◌, ℕ, ◌+◌, ℤ, List, [], ◌∷◌, Option, Some, None, refl, ap, ◌∙◌, arith, inl, inr}
use Rattle.std.proofs.Common.{if◌then◌else◌}
use Rattle.std.proofs.Common.{Bool as Test, true, false}
use Rattle.std.specs.Prelude.{nat_eq, ◌||◌}
use Rattle.wg_num.specs.declared.types.IntType.{IntType}
use Rattle.wg_num.specs.declared.types.IntType.TheVariants.{Int}
use Rattle.wg_num.specs.declared.types.Bin.{Bin}
use Rattle.cl_model.specs.declared.program.Root.{Root}
use Rattle.cl_model.specs.Tree as tree
use Rattle.cl_model.specs.Tree.{Action, Arms, no_arm, arm}
use Rattle.cl_model.specs.Valid.{binary_type, promoted}
use Rattle.cl_model.specs.Varying.{sets}
use Rattle.kir.specs.declared.line.Atom.{Atom}
use Rattle.kir.specs.declared.line.Atom.TheVariants.{Cell as CellAtom}
use Rattle.kir.specs.Tree.{Work, Lines, NoLine, SetThen, LoadThen, StoreThen, ClearThen, IfThen, LoopThen}
use Rattle.kir.specs.Tree.{BarrierThen, joined_to, OfValue, OfFlag}
use Rattle.kir_lower.specs.declared.places.Value.{Value}
use Rattle.kir_lower.specs.Made.{Made, Instance, with_cell, next_cell}
use Rattle.kir_lower.specs.Actions.{first, second, changed, action_code, initial_lines, opened, is_none}
use Rattle.kir_lower.specs.Actions.{guarded_before, outward, round_code, labels_code, all_labels_code, selected}
use Rattle.kir_lower.specs.Actions.{fallen_code}
use Rattle.kir_lower.specs.Code.{before_rest, Guarded, entry_code}
use Rattle.kir_uniform.specs.Uniform.{sets_in}
use Rattle.kir_uniform.proofs.Living.{turned, true_or_false}
use Rattle.kir_uniform.proofs.Alike.{same_self}
use Rattle.kir_lower_shape.proofs.Quiet.{or_false}
use Rattle.kir_lower_shape.proofs.Steps.{IsFree}
use Rattle.kir_lower_shape.proofs.Absent.{next_more, IsOut, out_within}
use Rattle.kir_lower_shape.proofs.AbsentSteps.{action_uses, three_out, two_out, labels_up, all_labels_up}

module _ (c : ℕ) where
  -- the lines do not set the cell
  pub record Unset (lines : Lines) : Type 0 where
    pub is : sets_in c lines ≡ false

  unset_is : (lines : Lines) → sets_in c lines ≡ false → Unset lines
  unset_is lines e = record { is = e }

  pub unset_none : Unset NoLine
  unset_none = record { is = refl }

  joined : (a b : Lines) → sets_in c (joined_to a b) ≡ (sets_in c a || sets_in c b)
  joined NoLine b = refl
  joined (SetThen to work rest) b =
      ap (λ z. nat_eq to c || z) (joined rest b) ∙ or_assoc (nat_eq to c) (sets_in c rest) (sets_in c b)
    where
      or_assoc : (x y z : Test) → (x || (y || z)) ≡ ((x || y) || z)
      or_assoc true y z = refl
      or_assoc false y z = refl
  joined (LoadThen site to element root index rest) b =
      ap (λ z. nat_eq to c || z) (joined rest b) ∙ or_assoc (nat_eq to c) (sets_in c rest) (sets_in c b)
    where
      or_assoc : (x y z : Test) → (x || (y || z)) ≡ ((x || y) || z)
      or_assoc true y z = refl
      or_assoc false y z = refl
  joined (StoreThen site element root index from rest) b = joined rest b
  joined (ClearThen array rest) b = joined rest b
  joined (IfThen site test chosen other rest) b =
      ap (λ z. (sets_in c chosen || sets_in c other) || z) (joined rest b) ∙
      or_assoc (sets_in c chosen || sets_in c other) (sets_in c rest) (sets_in c b)
    where
      or_assoc : (x y z : Test) → (x || (y || z)) ≡ ((x || y) || z)
      or_assoc true y z = refl
      or_assoc false y z = refl
  joined (LoopThen site first_ test answer body rest) b =
      ap (λ z. (sets_in c test || sets_in c body) || z) (joined rest b) ∙
      or_assoc (sets_in c test || sets_in c body) (sets_in c rest) (sets_in c b)
    where
      or_assoc : (x y z : Test) → (x || (y || z)) ≡ ((x || y) || z)
      or_assoc true y z = refl
      or_assoc false y z = refl
  joined (BarrierThen site rest) b = joined rest b

  pub unset_then : (a b : Lines) → Unset a → Unset b → Unset (joined_to a b)
  unset_then a b h k = record { is = joined a b ∙ or_false (sets_in c a) (sets_in c b) h.is k.is }

  pub unset_set : (to : ℕ) (work : Work) (rest : Lines) → nat_eq c to ≡ false → Unset rest →
      Unset (SetThen to work rest)
  unset_set to work rest e h = record { is = or_false (nat_eq to c) (sets_in c rest) (turned to c ∙ e) h.is }

  pub unset_load : (site to : ℕ) (element : IntType) (root : Root) (index : Atom) (rest : Lines) →
      nat_eq c to ≡ false → Unset rest → Unset (LoadThen site to element root index rest)
  unset_load site to element root index rest e h =
      record { is = or_false (nat_eq to c) (sets_in c rest) (turned to c ∙ e) h.is }

  pub unset_if : (site : ℕ) (test : Atom) (chosen other rest : Lines) → Unset chosen → Unset other → Unset rest →
      Unset (IfThen site test chosen other rest)
  unset_if site test chosen other rest y n h =
      record {
        is = or_false (sets_in c chosen || sets_in c other) (sets_in c rest)
            (or_false (sets_in c chosen) (sets_in c other) y.is n.is) h.is;
      }

  pub unset_loop : (site : ℕ) (first_ : Test) (test : Lines) (answer : Atom) (body rest : Lines) → Unset test →
      Unset body → Unset rest → Unset (LoopThen site first_ test answer body rest)
  unset_loop site first_ test answer body rest y n h =
      record {
        is = or_false (sets_in c test || sets_in c body) (sets_in c rest)
            (or_false (sets_in c test) (sets_in c body) y.is n.is) h.is;
      }

  one_set : (to : ℕ) (work : Work) → nat_eq c to ≡ false → Unset (SetThen to work NoLine)
  one_set to work e = unset_set to work NoLine e unset_none

  -- the next cell is one of those that are made
  one_out : (m : Made) (of : IntType) → IsOut c (next_cell m) (next_cell (with_cell m OfValue of)) →
      nat_eq c (next_cell m) ≡ false
  one_out m of out = let one = next_more m OfValue of in out (next_cell m) (omega arith) (omega (arith, one))

  -- the new value of a compound assignment
  pub changed_unset : (op : Bin) (of back : IntType) (was by : Atom) (m : Made) →
      IsOut c (next_cell m) (next_cell (changed op of back was by m).made) → Unset (changed op of back was by m).lines
  changed_unset op of back was by m out = let e =
      three_out c m of (binary_type op of) back out in unset_set _ _ _ e.0 (unset_set _ _ _ e.1 (one_set _ _ e.2))

  -- a cell of a variable that is not set
  off_variable : (base x : ℕ) → (nat_eq c (base + x) ≡ true → nat_eq x x ≡ false) → nat_eq c (base + x) ≡ false
  off_variable base x h = elim (true_or_false (nat_eq c (base + x))) [
    | inl e ↦ absurd (let a = same_self x in
        let b = h e in cc)
    | inr e ↦ e
  ]

  -- the step of an action
  pub action_unset : (here : Instance) (action : Action) (values : List Value) (m : Made) →
      ((x : ℕ) → action_uses action ≡ Some x → nat_eq c (here.base + x) ≡ true → sets action x ≡ false)
      → IsOut c (next_cell m) (next_cell (action_code here action values m).made) →
      Unset (action_code here action values m).lines
  action_unset here (tree.Literal v of) values m off out = unset_none
  action_unset here (tree.Variable x) values m off out = one_set _ _ (one_out m _ out)
  action_unset here (tree.Unary op of) values m off out = one_set _ _ (one_out m _ out)
  action_unset here (tree.Binary op of) values m off out = one_set _ _ (one_out m _ out)
  action_unset here (tree.Builtin f of) values m off out = one_set _ _ (one_out m _ out)
  action_unset here (tree.Convert to) values m off out = one_set _ _ (one_out m _ out)
  action_unset here (tree.Ask what) values m off out = one_set _ _ (one_out m _ out)
  action_unset here tree.Second values m off out = unset_none
  action_unset here tree.Truth values m off out = one_set _ _ (one_out m _ out)
  action_unset here (tree.Decided answer) values m off out = unset_none
  action_unset here (tree.Set x) values m off out = one_set _ _ (off_variable here.base x (off x refl))
  action_unset here (tree.Change x op of back old) values m off out =
      unset_then (changed op of back (first values).atom (second values).atom m).lines _
      (changed_unset op of back (first values).atom (second values).atom m out)
      (one_set _ _ (off_variable here.base x (off x refl)))
  action_unset here (tree.Load site element root) values m off out =
      unset_load site _ element _ _ NoLine (one_out m element out) unset_none
  action_unset here (tree.Store site element root) values m off out = record { is = refl }

  pub initial_unset : (site : ℕ) (element : IntType) (array k : ℕ) (values : List Value) →
      sets_in c (initial_lines site element array k values) ≡ false
  initial_unset site element array k [] = refl
  initial_unset site element array k (v ∷ values) = initial_unset site element array (k + 1) values

  -- ---- ways out

  pub opened_unset : (way : Option ℕ) (exit : ℕ) (m : Made) →
      IsOut c (next_cell m) (next_cell (opened way exit m).made) → Unset (opened way exit m).lines
  opened_unset None exit m out = unset_none
  opened_unset (Some site) exit m out = let one =
      next_more m OfFlag Int in one_set _ _ (out (next_cell m) (omega arith) (omega (arith, one)))

  pub guarded_unset : (site exit : ℕ) (inside rest : Lines) → Unset inside → Unset rest →
      Unset (guarded_before site exit inside rest)
  guarded_unset site exit inside rest h k = by_test (is_none inside)
    where
      by_test : (b : Test) → Unset (if b then rest else IfThen site (CellAtom exit) NoLine inside rest)
      by_test true = k
      by_test false = unset_if site (CellAtom exit) NoLine inside rest unset_none h k

  pub outward_unset : (way : Option ℕ) (exit outer : ℕ) (m : Made) → IsFree c outer way →
      IsOut c (next_cell m) (next_cell (outward way exit outer m).made) → Unset (outward way exit outer m).lines
  outward_unset None exit outer m around out = unset_none
  outward_unset (Some site) exit outer m around out =
      unset_set _ _ _ (one_out m Int out) (unset_if site _ NoLine _ NoLine unset_none (one_set _ _ (around site refl))
      unset_none)

  -- the test of a loop, and its body with its step
  pub round_unset : (site : ℕ) (test_first : Test) (way : Option ℕ) (exit : ℕ) (test : Lines) (answer : Value)
      (step body : Lines) (m : Made) → IsFree c exit way →
      IsOut c (next_cell m) (next_cell (round_code site test_first way exit test answer step body m).made)
      → Unset test → Unset step → Unset body → Unset (round_code site test_first way exit test answer step body m).lines
  round_unset site test_first None exit test answer step body m free out t s b =
      unset_loop site test_first test answer.atom _ NoLine t (unset_then body step b s) unset_none
  round_unset site test_first (Some way) exit test answer step body m free out t s b =
      let e = free way refl in
      let n = two_out c m answer.of Int out in
      unset_loop site test_first _ (CellAtom (next_cell m)) _ NoLine
      (unset_set _ _ _ n.0 (unset_if way (CellAtom exit) NoLine _ NoLine unset_none
      (unset_then test _ t (one_set _ _ n.0)) unset_none))
      (unset_then body _ b (unset_set _ _ _ n.1 (unset_if way _ _ NoLine _ (one_set _ _ e) unset_none
      (guarded_unset way exit step NoLine s unset_none))))
      unset_none

  -- ---- the arms of a switch

  pub labels_unset : (site : ℕ) (value : Value) (chosen k : ℕ) (labels : List ℤ) (m : Made) →
      nat_eq c chosen ≡ false → IsOut c (next_cell m) (next_cell (labels_code site value chosen k labels m).made) →
      Unset (labels_code site value chosen k labels m).lines
  labels_unset site value chosen k [] m e out = unset_none
  labels_unset site value chosen k (label ∷ labels) m e out =
      let one = next_more m OfValue Int in
      let up = labels_up site value chosen k labels (with_cell m OfValue Int) in
      let n = out (next_cell m) (omega arith) (omega (arith, one, up)) in
      unset_set _ _ _ n (unset_if site _ _ NoLine _ (one_set _ _ e) unset_none
      (labels_unset site value chosen k labels (with_cell m OfValue Int) e
      (out_within c _ _ _ _ out (omega (arith, one)) (omega arith))))

  pub all_labels_unset : (site : ℕ) (value : Value) (chosen k : ℕ) (arms : Arms) (m : Made) →
      nat_eq c chosen ≡ false → IsOut c (next_cell m) (next_cell (all_labels_code site value chosen k arms m).made) →
      Unset (all_labels_code site value chosen k arms m).lines
  all_labels_unset site value chosen k no_arm m e out = unset_none
  all_labels_unset site value chosen k (arm labels other body rest) m e out =
      let cl = labels_code site value chosen k labels m in
      let a = labels_up site value chosen k labels m in
      let b = all_labels_up site value chosen (k + 1) rest cl.made in
      unset_then cl.lines _ (labels_unset site value chosen k labels m e
      (out_within c _ _ _ _ out (omega arith) (omega (arith, b))))
      (all_labels_unset site value chosen (k + 1) rest cl.made e
      (out_within c _ _ _ _ out (omega (arith, a)) (omega arith)))

  pub selected_unset : (site : ℕ) (value : Value) (arms : Arms) (m : Made) →
      IsOut c (next_cell m) (next_cell (selected site value arms m).made) → Unset (selected site value arms m).lines
  selected_unset site value arms m out =
      let to = promoted value.of in
      let m1 = with_cell m OfValue to in
      let m2 = with_cell m1 OfValue Int in
      let v : Value = record { atom = CellAtom (next_cell m); of = to } in
      let one = next_more m OfValue to in
      let two = next_more m1 OfValue Int in
      let up = all_labels_up site v (next_cell m1) 0 arms m2 in
      let e0 = out (next_cell m) (omega arith) (omega (arith, one, two, up)) in
      let e1 = out (next_cell m1) (omega (arith, one)) (omega (arith, one, two, up)) in
      unset_set _ _ _ e0 (unset_set _ _ _ e1 (all_labels_unset site v (next_cell m1) 0 arms m2 e1
      (out_within c _ _ _ _ out (omega (arith, one, two)) (omega arith))))

  pub entry_unset : (chosen fallen : Atom) (k : ℕ) (m : Made) →
      IsOut c (next_cell m) (next_cell (entry_code chosen fallen k m).made) → Unset (entry_code chosen fallen k m).lines
  entry_unset chosen fallen k m out = let e = two_out c m Int Int out in unset_set _ _ _ e.0 (one_set _ _ e.1)

  pub fallen_unset : (way : Option ℕ) (exit : ℕ) (entered : Value) (m : Made) →
      IsOut c (next_cell m) (next_cell (fallen_code way exit entered m).made) →
      Unset (fallen_code way exit entered m).lines
  fallen_unset None exit entered m out = unset_none
  fallen_unset (Some site) exit entered m out = let e = two_out c m Int Int out in unset_set _ _ _ e.0 (one_set _ _ e.1)

  pub before_rest_unset : (exit : ℕ) (declared : Test) (way : Option ℕ) (lines : Lines) (g : Guarded) → Unset lines →
      Unset g.inside × Unset g.rest
      → Unset (before_rest exit declared way lines g).inside × Unset (before_rest exit declared way lines g).rest
  before_rest_unset exit true way lines g h k = (unset_then lines _ h (unset_then g.inside g.rest k.0 k.1), unset_none)
  before_rest_unset exit false None lines g h k = (unset_then lines g.inside h k.0, k.1)
  before_rest_unset exit false (Some site) lines g h k = (h, guarded_unset site exit g.inside g.rest k.0 k.1)
