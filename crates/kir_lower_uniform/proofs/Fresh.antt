-- The value of an expression is a constant or a cell that its code makes, which is none of a variable.
use Rattle.std.proofs.Common.{◌≡◌, ℕ, ◌<◌, ◌≤◌, List, [], ◌∷◌, Option, Some, None, refl, subst, arith, inl, inr}
use Rattle.std.proofs.Common.{if◌then◌else◌}
use Rattle.std.proofs.Common.{Bool as Test, true, false}
use Rattle.std.specs.Prelude.{nat_eq}
use Rattle.wg_num.specs.declared.types.IntType.{IntType}
use Rattle.wg_num.specs.declared.types.Bin.{Bin}
use Rattle.cl_model.specs.declared.program.Root.{Root}
use Rattle.cl_model.specs.Tree as tree
use Rattle.cl_model.specs.Tree.{Action, Expression, Apply, Update, Choose, Call, Expressions, none, more, Program}
use Rattle.cl_model.specs.Valid.{binary_type}
use Rattle.kir.specs.declared.line.Atom.{Atom}
use Rattle.kir.specs.declared.line.Atom.TheVariants.{Const, Cell as CellAtom}
use Rattle.kir.specs.Tree.{Lines, OfValue, Kernel}
use Rattle.kir.specs.Live.{reads, some_reads}
use Rattle.kir.specs.Steps.{atom_value}
use Rattle.kir_lower.specs.declared.places.Value.{Value}
use Rattle.kir_lower.specs.Made.{Made, Instance, next_cell, with_cell, argument_roots}
use Rattle.kir_lower.specs.Actions.{first, second, atoms_of, changed, action_code}
use Rattle.kir_lower.specs.Code.{Calls, expression_code, operands_code, optional_code}
use Rattle.kir_uniform.specs.Uniform.{sets_in}
use Rattle.kir_uniform.specs.Does.{Cells, Who, Does}
use Rattle.kir_uniform.proofs.Living.{true_or_false}
use Rattle.kir_uniform.proofs.Alike.{same_number, kept}
use Rattle.kir_lower_shape.proofs.Quiet.{or_false}
use Rattle.kir_lower_shape.proofs.Absent.{next_more}
use Rattle.kir_lower_shape.proofs.AbsentCode.{CallsUp, expression_up, operands_up}
use Rattle.kir_lower_uniform.proofs.Ground.{Even, Grown, value_not_even, back_value, action_back, CallsBack}
use Rattle.kir_lower_uniform.proofs.Ground.{expression_back, operands_back}
use Rattle.kir_lower_uniform.proofs.UnsetCode.{action_up}

module _ (program : Program) (kernel : Kernel) where
  -- a constant, or a cell from one on and before another, which is none of a variable that does not vary
  abbrev pub AtomIn : ℕ → ℕ → Atom → Type 0
  AtomIn a b (Const value of) = Unit {0}
  AtomIn a b (CellAtom c) = (a ≤ c) × (c < b) × (Even program kernel c → ⊥)

  abbrev pub AllIn : ℕ → ℕ → List Value → Type 0
  AllIn a b [] = Unit {0}
  AllIn a b (v ∷ values) = AtomIn a b v.atom × AllIn a b values

  pub atom_within : (a b a' b' : ℕ) (x : Atom) → a' ≤ a → b ≤ b' → AtomIn a b x → AtomIn a' b' x
  atom_within a b a' b' (Const value of) l u h = tt
  atom_within a b a' b' (CellAtom c) l u h = (omega (arith, l, h.0), omega (arith, u, h.1), h.2)

  pub all_within : (a b a' b' : ℕ) (values : List Value) → a' ≤ a → b ≤ b' → AllIn a b values → AllIn a' b' values
  all_within a b a' b' [] l u h = tt
  all_within a b a' b' (v ∷ values) l u h = (atom_within a b a' b' v.atom l u h.0, all_within a b a' b' values l u h.1)

  -- it is not read from a variable's cell
  pub atom_not_read : (a b : ℕ) (x : Atom) (c : ℕ) → AtomIn a b x → Even program kernel c → reads c x ≡ false
  atom_not_read a b (Const value of) c h e = refl
  atom_not_read a b (CellAtom d) c h e =
      elim (true_or_false (nat_eq c d)) [
        | inl t ↦
            absurd (h.2 (subst (Even program kernel) (same_number c d t) e))
        | inr t ↦ t
      ]

  pub values_not_read : (a b : ℕ) (values : List Value) (c : ℕ) → AllIn a b values → Even program kernel c →
      some_reads c (atoms_of values) ≡ false
  values_not_read a b [] c h e = refl
  values_not_read a b (v ∷ values) c h e =
      or_false (reads c v.atom) (some_reads c (atoms_of values)) (atom_not_read a b v.atom c h.0 e)
      (values_not_read a b values c h.1 e)

  -- it keeps its value where none of those cells is set
  pub atom_kept : (who : Who) (lines : Lines) (a b : ℕ) (x : Atom) (f g : Cells) → AtomIn a b x →
      ((c : ℕ) → a ≤ c → c < b → sets_in c lines ≡ false) → Does who lines f g → atom_value g x ≡ atom_value f x
  atom_kept who lines a b (Const value of) f g h u d = refl
  atom_kept who lines a b (CellAtom c) f g h u d = kept who lines c (u c h.0 h.1) f g d

  pub first_in : (a b : ℕ) (values : List Value) → AllIn a b values → AtomIn a b (first values).atom
  first_in a b [] h = tt
  first_in a b (v ∷ values) h = h.0

  pub second_in : (a b : ℕ) (values : List Value) → AllIn a b values → AtomIn a b (second values).atom
  second_in a b [] h = tt
  second_in a b (v ∷ values) h = first_in a b values h.1

  -- a new cell
  new_in : (m : Made) (of : IntType) → Grown program kernel (with_cell m OfValue of) →
      AtomIn (next_cell m) (next_cell (with_cell m OfValue of)) (CellAtom (next_cell m))
  new_in m of g = let one =
      next_more m OfValue of in (omega arith, omega (arith, one), value_not_even program kernel m of g)

  -- the new value of a compound assignment
  pub changed_in : (op : Bin) (of back : IntType) (was by : Atom) (m : Made) →
      Grown program kernel (changed op of back was by m).made →
      AtomIn (next_cell m) (next_cell (changed op of back was by m).made) (changed op of back was by m).value.atom
  changed_in op of back was by m g =
      let one = next_more m OfValue of in
      let m1 = with_cell m OfValue of in
      let two = next_more m1 OfValue (binary_type op of) in
      atom_within _ _ _ _ (CellAtom (next_cell (with_cell m1 OfValue (binary_type op of)))) (omega (arith, one, two))
      (omega arith) (new_in (with_cell m1 OfValue (binary_type op of)) back g)

  -- what an action gives
  pub action_in : (here : Instance) (action : Action) (values : List Value) (a : ℕ) (m : Made) → a ≤ next_cell m →
      AllIn a (next_cell m) values → Grown program kernel (action_code here action values m).made
      → AtomIn a (next_cell (action_code here action values m).made) (action_code here action values m).value.atom
  action_in here (tree.Literal v of) values a m l h g = tt
  action_in here (tree.Variable x) values a m l h g =
      atom_within _ _ _ _ (CellAtom (next_cell m)) l (omega arith) (new_in m _ g)
  action_in here (tree.Unary op of) values a m l h g =
      atom_within _ _ _ _ (CellAtom (next_cell m)) l (omega arith) (new_in m _ g)
  action_in here (tree.Binary op of) values a m l h g =
      atom_within _ _ _ _ (CellAtom (next_cell m)) l (omega arith) (new_in m _ g)
  action_in here (tree.Builtin f of) values a m l h g =
      atom_within _ _ _ _ (CellAtom (next_cell m)) l (omega arith) (new_in m _ g)
  action_in here (tree.Convert to) values a m l h g =
      atom_within _ _ _ _ (CellAtom (next_cell m)) l (omega arith) (new_in m _ g)
  action_in here (tree.Ask what) values a m l h g =
      atom_within _ _ _ _ (CellAtom (next_cell m)) l (omega arith) (new_in m _ g)
  action_in here tree.Second values a m l h g = second_in a (next_cell m) values h
  action_in here tree.Truth values a m l h g =
      atom_within _ _ _ _ (CellAtom (next_cell m)) l (omega arith) (new_in m _ g)
  action_in here (tree.Decided answer) values a m l h g = tt
  action_in here (tree.Set x) values a m l h g = first_in a (next_cell m) values h
  action_in here (tree.Change x op of back old) values a m l h g =
      let up = action_up here (tree.Change x op of back old) values m in
      either old (atom_within _ _ _ _ (first values).atom (omega arith) up (first_in a (next_cell m) values h))
      (atom_within _ _ _ _ (changed op of back (first values).atom (second values).atom m).value.atom l (omega arith)
      (changed_in op of back (first values).atom (second values).atom m g))
    where
      either : (b : Test) → AtomIn a (next_cell (changed op of back (first values).atom (second values).atom m).made)
          (first values).atom
          → AtomIn a (next_cell (changed op of back (first values).atom (second values).atom m).made)
          (changed op of back (first values).atom (second values).atom m).value.atom
          → AtomIn a (next_cell (changed op of back (first values).atom (second values).atom m).made)
          (if b then first values else (changed op of back (first values).atom (second values).atom m).value).atom
      either true x y = x
      either false x y = y
  action_in here (tree.Load site element root) values a m l h g =
      atom_within _ _ _ _ (CellAtom (next_cell m)) l (omega arith) (new_in m _ g)
  action_in here (tree.Store site element root) values a m l h g = second_in a (next_cell m) values h

  -- what a call gives
  abbrev pub CallsFresh : Calls → Instance → Type 0
  CallsFresh calls here = (site function : ℕ) (roots : List Root) (values : List Value) (m : Made) →
      Grown program kernel (calls here site function roots values m).made
      → AtomIn (next_cell m) (next_cell (calls here site function roots values m).made)
      (calls here site function roots values m).value.atom

  module _ (calls : Calls) (up : CallsUp calls) (back : CallsBack program kernel calls) (here : Instance)
      (call : CallsFresh calls here) where
    mutual
      unfolding expression_code

      pub expression_in : (e : Expression) (m : Made) → Grown program kernel (expression_code calls here e m).made →
          AtomIn (next_cell m) (next_cell (expression_code calls here e m).made)
          (expression_code calls here e m).value.atom
      expression_in (Apply action operands) m g =
          let co = operands_code calls here operands m in
          let a = operands_up calls up here operands m in
          action_in here action co.values (next_cell m) co.made a
          (operands_in operands m (action_back program kernel here action co.values co.made g)) g
      expression_in (Update site element root op of bk old index value) m g =
          let ci = expression_code calls here index m in
          let ml = with_cell ci.made OfValue element in
          let cv = expression_code calls here value ml in
          let cc = changed op of bk (CellAtom (next_cell ci.made)) cv.value.atom cv.made in
          let a = expression_up calls up here index m in
          let b = next_more ci.made OfValue element in
          let d = expression_up calls up here value ml in
          let u = next_more cv.made OfValue of in
          let v = next_more (with_cell cv.made OfValue of) OfValue (binary_type op of) in
          let w = next_more (with_cell (with_cell cv.made OfValue of) OfValue (binary_type op of)) OfValue bk in
          let gv : Grown program kernel cv.made =
          back_value program kernel cv.made of (back_value program kernel (with_cell cv.made OfValue of)
          (binary_type op of) (back_value program kernel (with_cell (with_cell cv.made OfValue of) OfValue
          (binary_type op of)) bk g)) in
          let gl : Grown program kernel ml = expression_back program kernel calls back here value ml gv in
          either old (next_cell m) (next_cell cc.made) (record { atom = CellAtom (next_cell ci.made); of = element })
          cc.value
          (atom_within _ _ _ _ (CellAtom (next_cell ci.made)) a (omega (arith, d, u, v, w)) (new_in ci.made element gl))
          (atom_within _ _ _ _ cc.value.atom (omega (arith, a, b, d)) (omega arith)
          (changed_in op of bk (CellAtom (next_cell ci.made)) cv.value.atom cv.made g))
        where
          either : (b : Test) (l u : ℕ) (x y : Value) → AtomIn l u x.atom → AtomIn l u y.atom →
              AtomIn l u (if b then x else y).atom
          either true l u x y h k = h
          either false l u x y h k = k
      expression_in (Choose site test chosen other) m g =
          let ct = expression_code calls here test m in
          let cy = expression_code calls here chosen ct.made in
          let cn = expression_code calls here other cy.made in
          let a = expression_up calls up here test m in
          let b = expression_up calls up here chosen ct.made in
          let d = expression_up calls up here other cy.made in
          atom_within _ _ _ _ (CellAtom (next_cell cn.made)) (omega (arith, a, b, d)) (omega arith)
          (new_in cn.made cy.value.of g)
      expression_in (Call site function roots arguments) m g =
          let ca = operands_code calls here arguments m in
          let a = operands_up calls up here arguments m in
          atom_within _ _ _ _ (calls here site function (argument_roots here roots) ca.values ca.made).value.atom a
          (omega arith) (call site function (argument_roots here roots) ca.values ca.made g)

      pub operands_in : (list : Expressions) (m : Made) →
          Grown program kernel (operands_code calls here list m).made →
          AllIn (next_cell m) (next_cell (operands_code calls here list m).made)
          (operands_code calls here list m).values
      operands_in none m g = tt
      operands_in (more e rest) m g =
          let ce = expression_code calls here e m in
          let cr = operands_code calls here rest ce.made in
          let a = expression_up calls up here e m in
          let b = operands_up calls up here rest ce.made in (
            atom_within _ _ _ _ ce.value.atom (omega arith) b
                (expression_in e m (operands_back program kernel calls back here rest ce.made g)),
            all_within _ _ _ _ cr.values a (omega arith) (operands_in rest ce.made g),
          )

    pub optional_in : (e : Option Expression) (m : Made) → Grown program kernel (optional_code calls here e m).made →
        AtomIn (next_cell m) (next_cell (optional_code calls here e m).made) (optional_code calls here e m).value.atom
    optional_in None m g = tt
    optional_in (Some e) m g = expression_in e m g
