-- What is known of the parts of expressions, and that the value of each is a constant or a cell that was made for it.
use Rattle.std.proofs.Common.{◌≡◌, ℕ, suc, ◌≤◌, List, [], ◌∷◌, ◌++◌, Option, refl, sym, subst, arith, append_assoc}
use Rattle.std.proofs.Common.{inl, inr}
use Rattle.std.proofs.Common.{Bool as Test}
use Rattle.cl_model.specs.Agreement.{Owned, owned_by, HasOwned, IsInScope, IsInBody, IsScopedAt}
use Rattle.cl_model.specs.Calls.{calls_in, calls_among, function_at}
use Rattle.cl_model.specs.Task.{Operand, Tested, Chosen, Other, Leg, Point as ProgramPoint}
use Rattle.cl_model.specs.Tree as tree
use Rattle.cl_model.specs.Tree.{Action, Expression, Apply, Update, Choose, Call, Expressions, none, more}
use Rattle.cl_model.specs.Valid.{Scope, Has}
use Rattle.cl_model.specs.Steps.{count_of}
use Rattle.wg_num.specs.declared.types.IntType.{IntType}
use Rattle.wg_num.specs.declared.types.Bin.{Bin}
use Rattle.cl_model.specs.declared.program.Root.{Root}
use Rattle.kir.specs.declared.line.Atom.TheVariants.{Cell as CellAtom}
use Rattle.kir.specs.Tree.{OfFlag, OfValue}
use Rattle.kir_lower.specs.declared.places.Value.{Value}
use Rattle.kir_lower.specs.Made.{Made, next_cell, with_cell, argument_roots}
use Rattle.kir_lower.specs.Actions.{first, second, action_code, changed}
use Rattle.kir_lower.specs.Code.{Calls, expression_code, operands_code}
use Rattle.kir_lower_shape.specs.Marks.{Way, further}
use Rattle.kir_lower_shape.proofs.Making.{call_of, action_makes, expression_makes, operands_make}
use Rattle.kir_lower_simulation.specs.Setting.{Setting, Activation}
use Rattle.kir_lower_simulation.specs.Held.{Within, IsFixed, AreFixed}
use Rattle.kir_lower_simulation.specs.Ready.{AreNext, Adds, IsSoundCall, ReadyExpression, ReadyOperands}
use Rattle.kir_lower_simulation.proofs.Keeping.{Grows, grows_same, grows_before, grows_with, grows_count, within_less}
use Rattle.kir_lower_simulation.proofs.Keeping.{value_fixed, fixed_more, first_fixed, second_fixed, next_with}
use Rattle.kir_lower_simulation.proofs.Actions.{changed_grows, changed_fixed, either_fixed}
use Rattle.kir_lower_simulation.proofs.Readying.{next_left, next_right, adds_same, adds_before}

-- ---- ways

-- one leg further
pub further_leads : (S : Setting) (way : Way) (leg : Leg) (In : ProgramPoint → Owned → Type 0) →
    ((begun : List ℕ) (along : ProgramPoint) (v : Owned) → In along v →
    IsScopedAt S.program (way begun ++ leg ∷ along) v)
    → (begun : List ℕ) (along : ProgramPoint) (v : Owned) → In along v →
    IsScopedAt S.program (further way leg begun ++ along) v
further_leads S way leg In h begun along v i =
    subst (λ z. IsScopedAt S.program z v) (sym (append_assoc (way begun) (leg ∷ []) along)) (h begun along v i)

-- a variable that is in scope in an expression is so at its node
pub here_in_scope : (inside : ℕ → ProgramPoint → Owned → Type 0) (scope : List Owned) (e : Expression) (v : Owned) →
    HasOwned scope v → IsInScope inside scope e [] v
here_in_scope inside scope (Apply action operands) v h = h
here_in_scope inside scope (Update site element root op of back old index value) v h = h
here_in_scope inside scope (Choose site test chosen other) v h = h
here_in_scope inside scope (Call site g roots arguments) v h = h

pub has_owned : (f : ℕ) (scope : Scope) (x : ℕ) → Has scope x →
    HasOwned (owned_by f scope) (record { function = f; variable = x })
has_owned f [] x h = absurd h
has_owned f (y ∷ scope) x (inl e) = inl (refl, e)
has_owned f (y ∷ scope) x (inr h) = inr (has_owned f scope x h)

module _ (S : Setting) (C : Activation) (calls : Calls)
    (grows : (site function : ℕ) (roots : List Root) (values : List Value) (m : Made) →
    Grows (call_of site function ∷ []) m (calls C.here site function roots values m).made)
    (adds : (site function : ℕ) (roots : List Root) (values : List Value) (m : Made) →
    Adds S C (call_of site function ∷ []) m (calls C.here site function roots values m).made) where
  -- ---- what is made

  pub expression_grows : (e : Expression) (m : Made) → Grows (calls_in e) m (expression_code calls C.here e m).made
  expression_grows e m =
      expression_makes Grows grows_same grows_before (grows_with OfValue) (grows_with OfFlag) calls C.here grows e m

  pub operands_grow : (list : Expressions) (m : Made) →
      Grows (calls_among list) m (operands_code calls C.here list m).made
  operands_grow list m =
      operands_make Grows grows_same grows_before (grows_with OfValue) (grows_with OfFlag) calls C.here grows list m

  pub action_grows : (action : Action) (values : List Value) (m : Made) →
      Grows [] m (action_code C.here action values m).made
  action_grows action values m =
      action_makes Grows grows_same grows_before (grows_with OfValue) (grows_with OfFlag) C.here action values m

  pub expression_adds : (e : Expression) (m : Made) → Adds S C (calls_in e) m (expression_code calls C.here e m).made
  expression_adds e m = expression_makes (Adds S C) (adds_same S C) (adds_before S C) (λ m of. adds_same S C m)
      (λ m of. adds_same S C m) calls C.here adds e m

  pub operands_add : (list : Expressions) (m : Made) →
      Adds S C (calls_among list) m (operands_code calls C.here list m).made
  operands_add list m = operands_make (Adds S C) (adds_same S C) (adds_before S C) (λ m of. adds_same S C m)
      (λ m of. adds_same S C m) calls C.here adds list m

  -- ---- the parts of an expression

  pub apply_operands : (scope : Scope) (way : Way) (action : Action) (operands : Expressions) (m : Made) →
      ReadyExpression S C calls scope way (Apply action operands) m → ReadyOperands S C calls scope way 0 operands m
  unfolding expression_code
  apply_operands scope way action operands m r = record {
    sound = r.sound.1;
    leads = λ begun n i e along v h. subst (λ z. IsScopedAt S.program (way begun ++ Operand z ∷ along) v)
        (let same : i ≡ n = omega (arith, e) in same) (r.leads begun (Operand i ∷ along) v h);
    next = r.next;
    within = within_less S [] (operands_code calls C.here operands m).made _
        (action_grows action (operands_code calls C.here operands m).values
        (operands_code calls C.here operands m).made) r.within;
    low = r.low;
  }

  pub operands_first : (scope : Scope) (way : Way) (k : ℕ) (e : Expression) (rest : Expressions) (m : Made) →
      ReadyOperands S C calls scope way k (more e rest) m →
      ReadyExpression S C calls scope (further way (Operand k)) e m
  unfolding expression_code
  operands_first scope way k e rest m r = record {
    sound = r.sound.0;
    leads = further_leads S way (Operand k) (λ along v. IsInScope (IsInBody S.program C.depth)
        (owned_by C.function scope) e along v) (λ begun along v h. r.leads begun k 0 (omega arith) along v h);
    next = next_left S C m (calls_in e) (calls_among rest) r.next;
    within = within_less S (calls_among rest) (expression_code calls C.here e m).made _
        (operands_grow rest (expression_code calls C.here e m).made) r.within;
    low = r.low;
  }

  pub operands_rest : (scope : Scope) (way : Way) (k : ℕ) (e : Expression) (rest : Expressions) (m : Made) →
      ReadyOperands S C calls scope way k (more e rest) m →
      ReadyOperands S C calls scope way (suc k) rest (expression_code calls C.here e m).made
  unfolding expression_code
  operands_rest scope way k e rest m r =
      let g = grows_count (calls_in e) m (expression_code calls C.here e m).made (expression_grows e m) in
      let l = r.low in
      record {
        sound = r.sound.1;
        leads = λ begun n i p along v h. r.leads begun n (suc i) (omega (arith, p)) along v h;
        next = next_right S C m (expression_code calls C.here e m).made (calls_in e) (calls_among rest) r.next
            (expression_adds e m);
        within = r.within;
        low = omega (arith, g, l);
      }

  -- what is known of the call of the arguments
  pub call_arguments : (scope : Scope) (way : Way) (site g : ℕ) (roots : List (Option Root)) (arguments : Expressions)
      (m : Made) → ReadyExpression S C calls scope way (Call site g roots arguments) m →
      ReadyOperands S C calls scope way 0 arguments m
  unfolding expression_code
  call_arguments scope way site g roots arguments m r = record {
    sound = r.sound.1;
    leads = λ begun n i e along v h. subst (λ z. IsScopedAt S.program (way begun ++ Operand z ∷ along) v)
        (let same : i ≡ n = omega (arith, e) in same) (r.leads begun (Operand i ∷ along) v h);
    next = next_left S C m (calls_among arguments) (call_of site g ∷ []) r.next;
    within = within_less S (call_of site g ∷ []) (operands_code calls C.here arguments m).made _
        (grows site g (argument_roots C.here roots) (operands_code calls C.here arguments m).values
        (operands_code calls C.here arguments m).made) r.within;
    low = r.low;
  }

  pub update_index : (scope : Scope) (way : Way) (site : ℕ) (element : IntType) (root : Root) (op : Bin)
      (of back : IntType) (old : Test) (index value : Expression) (m : Made)
      → ReadyExpression S C calls scope way (Update site element root op of back old index value) m →
      ReadyExpression S C calls scope (further way (Operand 0)) index m
  unfolding expression_code
  update_index scope way site element root op of back old index value m r =
      let ci = expression_code calls C.here index m in
      let ml = with_cell ci.made OfValue element in
      let cv = expression_code calls C.here value ml in
      let cc = changed op of back (CellAtom (next_cell ci.made)) cv.value.atom cv.made in
      record {
        sound = r.sound.1;
        leads = further_leads S way (Operand 0) (λ along v. IsInScope (IsInBody S.program C.depth)
            (owned_by C.function scope) index along v) (λ begun along v h. r.leads begun (Operand 0 ∷ along) v h);
        next = next_left S C m (calls_in index) (calls_in value) r.next;
        within = within_less S [] ci.made ml (grows_with OfValue ci.made element)
            (within_less S (calls_in value) ml cv.made (expression_grows value ml)
            (within_less S [] cv.made cc.made (changed_grows op of back (CellAtom (next_cell ci.made)) cv.value.atom
            cv.made) r.within));
        low = r.low;
      }

  pub update_value : (scope : Scope) (way : Way) (site : ℕ) (element : IntType) (root : Root) (op : Bin)
      (of back : IntType) (old : Test) (index value : Expression) (m : Made)
      → ReadyExpression S C calls scope way (Update site element root op of back old index value) m →
      ReadyExpression S C calls scope (further way (Operand 1)) value
      (with_cell (expression_code calls C.here index m).made OfValue element)
  unfolding expression_code
  update_value scope way site element root op of back old index value m r =
      let ci = expression_code calls C.here index m in
      let ml = with_cell ci.made OfValue element in
      let cv = expression_code calls C.here value ml in
      let cc = changed op of back (CellAtom (next_cell ci.made)) cv.value.atom cv.made in
      let g = grows_count (calls_in index) m ci.made (expression_grows index m) in
      let w = next_with ci.made OfValue element in
      let l = r.low in
      record {
        sound = r.sound.2;
        leads = further_leads S way (Operand 1) (λ along v. IsInScope (IsInBody S.program C.depth)
            (owned_by C.function scope) value along v) (λ begun along v h. r.leads begun (Operand 1 ∷ along) v h);
        next = next_right S C m ml (calls_in index) (calls_in value) r.next (expression_adds index m);
        within = within_less S [] cv.made cc.made (changed_grows op of back (CellAtom (next_cell ci.made))
            cv.value.atom cv.made) r.within;
        low = omega (arith, g, w, l);
      }

  pub choose_test : (scope : Scope) (way : Way) (site : ℕ) (test chosen other : Expression) (m : Made) →
      ReadyExpression S C calls scope way (Choose site test chosen other) m →
      ReadyExpression S C calls scope (further way Tested) test m
  unfolding expression_code
  choose_test scope way site test chosen other m r =
      let ct = expression_code calls C.here test m in
      let cy = expression_code calls C.here chosen ct.made in
      let cn = expression_code calls C.here other cy.made in
      record {
        sound = r.sound.0;
        leads = further_leads S way Tested (λ along v. IsInScope (IsInBody S.program C.depth)
            (owned_by C.function scope) test along v) (λ begun along v h. r.leads begun (Tested ∷ along) v h);
        next = next_left S C m (calls_in test) (calls_in chosen ++ calls_in other) r.next;
        within = within_less S (calls_in chosen) ct.made cy.made (expression_grows chosen ct.made)
            (within_less S (calls_in other) cy.made cn.made (expression_grows other cy.made)
            (within_less S [] cn.made _ (grows_with OfValue cn.made cy.value.of) r.within));
        low = r.low;
      }

  pub choose_chosen : (scope : Scope) (way : Way) (site : ℕ) (test chosen other : Expression) (m : Made) →
      ReadyExpression S C calls scope way (Choose site test chosen other) m →
      ReadyExpression S C calls scope (further way Chosen) chosen (expression_code calls C.here test m).made
  unfolding expression_code
  choose_chosen scope way site test chosen other m r =
      let ct = expression_code calls C.here test m in
      let cy = expression_code calls C.here chosen ct.made in
      let cn = expression_code calls C.here other cy.made in
      let g = grows_count (calls_in test) m ct.made (expression_grows test m) in
      let l = r.low in
      record {
        sound = r.sound.1;
        leads = further_leads S way Chosen (λ along v. IsInScope (IsInBody S.program C.depth)
            (owned_by C.function scope) chosen along v) (λ begun along v h. r.leads begun (Chosen ∷ along) v h);
        next = next_left S C ct.made (calls_in chosen) (calls_in other)
            (next_right S C m ct.made (calls_in test) (calls_in chosen ++ calls_in other) r.next
            (expression_adds test m));
        within = within_less S (calls_in other) cy.made cn.made (expression_grows other cy.made)
            (within_less S [] cn.made _ (grows_with OfValue cn.made cy.value.of) r.within);
        low = omega (arith, g, l);
      }

  pub choose_other : (scope : Scope) (way : Way) (site : ℕ) (test chosen other : Expression) (m : Made) →
      ReadyExpression S C calls scope way (Choose site test chosen other) m
      → ReadyExpression S C calls scope (further way Other) other
      (expression_code calls C.here chosen (expression_code calls C.here test m).made).made
  unfolding expression_code
  choose_other scope way site test chosen other m r =
      let ct = expression_code calls C.here test m in
      let cy = expression_code calls C.here chosen ct.made in
      let cn = expression_code calls C.here other cy.made in
      let g = grows_count (calls_in test) m ct.made (expression_grows test m) in
      let g2 = grows_count (calls_in chosen) ct.made cy.made (expression_grows chosen ct.made) in
      let l = r.low in
      record {
        sound = r.sound.2;
        leads = further_leads S way Other (λ along v. IsInScope (IsInBody S.program C.depth)
            (owned_by C.function scope) other along v) (λ begun along v h. r.leads begun (Other ∷ along) v h);
        next = next_right S C ct.made cy.made (calls_in chosen) (calls_in other)
            (next_right S C m ct.made (calls_in test) (calls_in chosen ++ calls_in other) r.next
            (expression_adds test m)) (expression_adds chosen ct.made);
        within = within_less S [] cn.made _ (grows_with OfValue cn.made cy.value.of) r.within;
        low = omega (arith, g, g2, l);
      }

  -- ---- fixed values

  pub action_fixed : (action : Action) (values : List Value) (m : Made) → AreFixed S C.low (next_cell m) values →
      C.low ≤ next_cell m → Within S (action_code C.here action values m).made
      → IsFixed S C.low (next_cell (action_code C.here action values m).made) (action_code C.here action values m).value
  action_fixed (tree.Literal v of) values m h low w = refl
  action_fixed (tree.Variable x) values m h low w = value_fixed S C.low m _ low w
  action_fixed (tree.Unary op of) values m h low w = value_fixed S C.low m _ low w
  action_fixed (tree.Binary op of) values m h low w = value_fixed S C.low m _ low w
  action_fixed (tree.Builtin f of) values m h low w = value_fixed S C.low m _ low w
  action_fixed (tree.Convert to) values m h low w = value_fixed S C.low m _ low w
  action_fixed (tree.Ask what) values m h low w = value_fixed S C.low m _ low w
  action_fixed tree.Second values m h low w = second_fixed S C.low (next_cell m) values h
  action_fixed tree.Truth values m h low w = value_fixed S C.low m _ low w
  action_fixed (tree.Decided answer) values m h low w = refl
  action_fixed (tree.Set x) values m h low w = first_fixed S C.low (next_cell m) values h
  action_fixed (tree.Change x op of back old) values m h low w =
      let cc = changed op of back (first values).atom (second values).atom m in
      let g = grows_count [] m cc.made (changed_grows op of back (first values).atom (second values).atom m) in
      either_fixed S C.low (next_cell cc.made) old (first values) cc.value
      (fixed_more S C.low (next_cell m) (next_cell cc.made) (first values) g
      (first_fixed S C.low (next_cell m) values h)) (changed_fixed S C.low op of back (first values).atom
      (second values).atom m low w)
  action_fixed (tree.Load site element root) values m h low w = value_fixed S C.low m _ low w
  action_fixed (tree.Store site element root) values m h low w = second_fixed S C.low (next_cell m) values h

  module _ (call_fixed : (site g : ℕ) (roots : List (Option Root)) (values : List Value) (count : ℕ) (m : Made) →
      IsSoundCall S.program (function_at S.program C.function) g roots count → AreNext S C m (call_of site g ∷ [])
      → C.low ≤ next_cell m → Within S (calls C.here site g (argument_roots C.here roots) values m).made →
      IsFixed S C.low (next_cell (calls C.here site g (argument_roots C.here roots) values m).made)
      (calls C.here site g (argument_roots C.here roots) values m).value) where
    mutual
      unfolding expression_code

      pub expression_fixed : (scope : Scope) (way : Way) (e : Expression) (m : Made) →
          ReadyExpression S C calls scope way e m →
          IsFixed S C.low (next_cell (expression_code calls C.here e m).made) (expression_code calls C.here e m).value
      expression_fixed scope way (Apply action operands) m r =
          let co = operands_code calls C.here operands m in
          let g = grows_count (calls_among operands) m co.made (operands_grow operands m) in
          let l = r.low in
          action_fixed action co.values co.made
          (operands_fixed scope way 0 operands m (apply_operands scope way action operands m r)) (omega (
            arith,
            g,
            l,
          )) r.within
      expression_fixed scope way (Update site element root op of back old index value) m r =
          let ci = expression_code calls C.here index m in
          let ml = with_cell ci.made OfValue element in
          let cv = expression_code calls C.here value ml in
          let cc = changed op of back (CellAtom (next_cell ci.made)) cv.value.atom cv.made in
          let ri = update_index scope way site element root op of back old index value m r in
          let rv = update_value scope way site element root op of back old index value m r in
          let gi = grows_count (calls_in index) m ci.made (expression_grows index m) in
          let gw = next_with ci.made OfValue element in
          let gv = grows_count (calls_in value) ml cv.made (expression_grows value ml) in
          let gc = grows_count [] cv.made cc.made (changed_grows op of back (CellAtom (next_cell ci.made))
          cv.value.atom cv.made) in
          let l = r.low in
          let wl : Within S ml = within_less S (calls_in value) ml cv.made (expression_grows value ml) (rv.within) in
          either_fixed S C.low (next_cell cc.made) old (record { atom = CellAtom (next_cell ci.made); of = element })
          cc.value
          (fixed_more S C.low (next_cell ml) (next_cell cc.made) (record {
            atom = CellAtom (next_cell ci.made);
            of = element;
          }) (omega (arith, gv, gc))
          (value_fixed S C.low ci.made element (omega (arith, gi, l)) wl))
          (changed_fixed S C.low op of back (CellAtom (next_cell ci.made)) cv.value.atom cv.made (omega (
            arith,
            gi,
            gw,
            gv,
            l,
          )) r.within)
      expression_fixed scope way (Choose site test chosen other) m r =
          let ct = expression_code calls C.here test m in
          let cy = expression_code calls C.here chosen ct.made in
          let cn = expression_code calls C.here other cy.made in
          let gt = grows_count (calls_in test) m ct.made (expression_grows test m) in
          let gy = grows_count (calls_in chosen) ct.made cy.made (expression_grows chosen ct.made) in
          let gn = grows_count (calls_in other) cy.made cn.made (expression_grows other cy.made) in
          let l = r.low in
          value_fixed S C.low cn.made cy.value.of (omega (arith, gt, gy, gn, l)) r.within
      expression_fixed scope way (Call site g roots arguments) m r =
          let ca = operands_code calls C.here arguments m in
          let ga = grows_count (calls_among arguments) m ca.made (operands_grow arguments m) in
          let l = r.low in
          call_fixed site g roots ca.values (count_of arguments) ca.made r.sound.0
          (next_right S C m ca.made (calls_among arguments) (call_of site g ∷ []) r.next
          (operands_add arguments m)) (omega (arith, ga, l)) r.within

      pub operands_fixed : (scope : Scope) (way : Way) (k : ℕ) (list : Expressions) (m : Made) →
          ReadyOperands S C calls scope way k list m →
          AreFixed S C.low (next_cell (operands_code calls C.here list m).made)
          (operands_code calls C.here list m).values
      operands_fixed scope way k none m r = tt
      operands_fixed scope way k (more e rest) m r =
          let ce = expression_code calls C.here e m in
          let cr = operands_code calls C.here rest ce.made in
          let g = grows_count (calls_among rest) ce.made cr.made (operands_grow rest ce.made) in (
            fixed_more S C.low (next_cell ce.made) (next_cell cr.made) ce.value g
                (expression_fixed scope (further way (Operand k)) e m (operands_first scope way k e rest m r)),
            operands_fixed scope way (suc k) rest ce.made (operands_rest scope way k e rest m r),
          )
