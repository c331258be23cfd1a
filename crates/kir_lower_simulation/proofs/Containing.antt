-- What is known of a statement or a list is known of its own parts.
use Rattle.std.proofs.Common.{◌≡◌, ℕ, suc, ◌+◌, ◌<◌, ◌≤◌, List, [], ◌∷◌, ◌++◌, length, Option, Some, None}
use Rattle.std.proofs.Common.{refl, sym, subst, arith, append_assoc, inl, inr, true, false}
use Rattle.std.proofs.Common.{if◌then◌else◌}
use Rattle.std.proofs.Common.{Bool as Test}
use Rattle.std.specs.Prelude.{nat_eq, ◌&&◌}
use Rattle.std.proofs.lemmas.Bool.{eqb-true}
use Rattle.std.proofs.lemmas.Option.{none-some, slice_get_within}
use Rattle.cl_model.specs.declared.program.Root.{Root}
use Rattle.cl_model.specs.Agreement.{Owned, owned_by, HasOwned, IsInScope, IsInScopeAt, IsInScopeList, IsInBody}
use Rattle.cl_model.specs.Agreement.{IsScopedAt}
use Rattle.cl_model.specs.Calls.{calls_in, calls_in_optional, calls_of, calls_of_all, calls_of_arms, function_at}
use Rattle.cl_model.specs.Steps.{in_order}
use Rattle.cl_model.specs.Task.{Operand, Tested, Chosen, Other, Nth, Task, Point as ProgramPoint}
use Rattle.cl_model.specs.Tree.{Expression, Expressions, Statement, Do, Declare, Fill, Block, If, Loop, Switch, Break}
use Rattle.cl_model.specs.Tree.{Continue, Return, Barrier, Statements, empty, also, Arms, Function}
use Rattle.cl_model.specs.Valid.{Scope, Has, scope_after}
use Rattle.kir.specs.Tree.{Lines, OfFlag, OfValue}
use Rattle.kir_lower.specs.declared.places.Value.{Value}
use Rattle.kir_lower.specs.Made.{Made, next_cell}
use Rattle.kir_lower.specs.Ways.{first_of, way_out, way_out_of_all, declares}
use Rattle.kir_lower.specs.Code.{Calls, expression_code, optional_code, Guarded, is_guarded, before_rest}
use Rattle.kir_lower.specs.Code.{statement_code, list_code, arms_code}
use Rattle.kir_lower_shape.specs.Marks.{Way, further}
use Rattle.kir_lower_shape.proofs.Making.{call_of, optional_makes, statement_makes, list_makes, arms_make}
use Rattle.kir_lower_simulation.specs.Setting.{Setting, Store, Activation, inside, own_variable}
use Rattle.kir_lower_simulation.specs.Held.{Within, IsWithin}
use Rattle.kir_lower_simulation.specs.Ready.{HasOwn, Adds, ReadyExpression, ReadyOperands}
use Rattle.kir_lower_simulation.specs.Bodies.{IsSoundStatement, declares_it, IsExit, HasExit, ReadyStatement, ReadyList}
use Rattle.kir_lower_simulation.proofs.Lines.{Comes, never}
use Rattle.kir_lower_simulation.proofs.Keeping.{Grows, grows_same, grows_before, grows_with, grows_count, within_less}
use Rattle.kir_lower_simulation.proofs.Actions.{comes_now}
use Rattle.kir_lower_simulation.proofs.Readying.{next_left, next_right, adds_same, adds_before}
use Rattle.kir_lower_simulation.proofs.Fixing.{further_leads, has_owned, expression_grows, expression_adds}

-- ---- scopes

-- a variable in scope at a statement is so at its node
pub here_in_statement : (within : ℕ → ProgramPoint → Owned → Type 0) (f : ℕ) (scope : List Owned) (s : Statement)
    (v : Owned) → HasOwned scope v → IsInScopeAt within f scope s [] v
here_in_statement within f scope (Do e) v h = h
here_in_statement within f scope (Declare x value) v h = h
here_in_statement within f scope (Fill site array values) v h = h
here_in_statement within f scope (Block list) v h = h
here_in_statement within f scope (If site test chosen other) v h = h
here_in_statement within f scope (Loop site test_first test step body) v h = h
here_in_statement within f scope (Switch site value arms) v h = h
here_in_statement within f scope (Break site) v h = h
here_in_statement within f scope (Continue site) v h = h
here_in_statement within f scope (Return site value) v h = h
here_in_statement within f scope (Barrier site) v h = h

-- behind the first statement of a list
pub list_behind : (within : ℕ → ProgramPoint → Owned → Type 0) (f : ℕ) (scope : Scope) (s : Statement)
    (rest : Statements) (i : ℕ) (along : ProgramPoint) (v : Owned) →
    IsInScopeList within f (owned_by f (scope_after scope s)) rest i along v
    → IsInScopeList within f (owned_by f scope) (also s rest) (suc i) along v
list_behind within f scope (Do e) rest i along v h = h
list_behind within f scope (Declare x value) rest i along v h = h
list_behind within f scope (Fill site array values) rest i along v h = h
list_behind within f scope (Block list) rest i along v h = h
list_behind within f scope (If site test chosen other) rest i along v h = h
list_behind within f scope (Loop site test_first test step body) rest i along v h = h
list_behind within f scope (Switch site value arms) rest i along v h = h
list_behind within f scope (Break site) rest i along v h = h
list_behind within f scope (Continue site) rest i along v h = h
list_behind within f scope (Return site value) rest i along v h = h
list_behind within f scope (Barrier site) rest i along v h = h

-- the scope behind a statement has all of it
pub scope_more : (scope : Scope) (s : Statement) (x : ℕ) → Has scope x → Has (scope_after scope s) x
scope_more scope (Do e) x h = h
scope_more scope (Declare y value) x h = inr h
scope_more scope (Fill site array values) x h = h
scope_more scope (Block list) x h = h
scope_more scope (If site test chosen other) x h = h
scope_more scope (Loop site test_first test step body) x h = h
scope_more scope (Switch site value arms) x h = h
scope_more scope (Break site) x h = h
scope_more scope (Continue site) x h = h
scope_more scope (Return site value) x h = h
scope_more scope (Barrier site) x h = h

one_or_not : (b : Test) → 0 < (if b then 1 else 0) → b ≡ true
one_or_not true h = refl
one_or_not false h = absurd (omega (arith, h))

-- and what it declares
pub declared_has : (scope : Scope) (s : Statement) (x : ℕ) → 0 < declares_it s x → Has (scope_after scope s) x
declared_has scope (Declare y value) x h = inl (eqb-true y x (one_or_not (nat_eq y x) h))
declared_has scope (Do e) x h = absurd (omega (arith, h))
declared_has scope (Fill site array values) x h = absurd (omega (arith, h))
declared_has scope (Block list) x h = absurd (omega (arith, h))
declared_has scope (If site test chosen other) x h = absurd (omega (arith, h))
declared_has scope (Loop site test_first test step body) x h = absurd (omega (arith, h))
declared_has scope (Switch site value arms) x h = absurd (omega (arith, h))
declared_has scope (Break site) x h = absurd (omega (arith, h))
declared_has scope (Continue site) x h = absurd (omega (arith, h))
declared_has scope (Return site value) x h = absurd (omega (arith, h))
declared_has scope (Barrier site) x h = absurd (omega (arith, h))

own_within : (f : Function) (x : ℕ) → HasOwn f x → x < length f.variables
own_within f x h = slice_get_within f.variables x h.0 h.1

pub within_after : (S : Setting) (C : Activation) (scope : Scope) (s : Statement) → IsWithin S C scope →
    IsSoundStatement S.program (function_at S.program C.function) scope s → IsWithin S C (scope_after scope s)
within_after S C scope (Do e) h k = h
within_after S C scope (Declare x value) h k = λ y has. one y has
  where
    one : (y : ℕ) → Has (x ∷ scope) y → y < length (function_at S.program C.function).variables
    one y (inl e) = subst (λ z. z < length (function_at S.program C.function).variables) e
        (own_within (function_at S.program C.function) x k.0)
    one y (inr has) = h y has
within_after S C scope (Fill site array values) h k = h
within_after S C scope (Block list) h k = h
within_after S C scope (If site test chosen other) h k = h
within_after S C scope (Loop site test_first test step body) h k = h
within_after S C scope (Switch site value arms) h k = h
within_after S C scope (Break site) h k = h
within_after S C scope (Continue site) h k = h
within_after S C scope (Return site value) h k = h
within_after S C scope (Barrier site) h k = h

-- ---- ways out

pub exit_more : (S : Setting) (C : Activation) (cell : Option ℕ) (exit : ℕ) (a b : Made) → next_cell a ≤ next_cell b →
    IsExit S C cell exit a → IsExit S C cell exit b
exit_more S C cell exit a b le h =
    record { is = h.is; made = h.made; low = h.low; high = λ c e. let u = h.high c e in omega (arith, u, le) }

pub exit_first : (cell : Option ℕ) (exit : ℕ) (a b : Option ℕ) → HasExit cell exit (first_of a b) → HasExit cell exit a
exit_first cell exit None b h site e = absurd (none-some site e)
exit_first cell exit (Some s) b h site e = h s refl

pub exit_second : (cell : Option ℕ) (exit : ℕ) (a b : Option ℕ) → HasExit cell exit (first_of a b) → HasExit cell exit b
exit_second cell exit None b h site e = h site e
exit_second cell exit (Some s) b h site e = h s refl

before_rest_made : (exit : ℕ) (declared : Test) (way : Option ℕ) (lines : Lines) (g : Guarded) →
    (before_rest exit declared way lines g).made ≡ g.made
before_rest_made exit true way lines g = refl
before_rest_made exit false None lines g = refl
before_rest_made exit false (Some site) lines g = refl

module _ (S : Setting) (C : Activation) (calls : Calls)
    (grows : (site function : ℕ) (roots : List Root) (values : List Value) (m : Made) →
    Grows (call_of site function ∷ []) m (calls C.here site function roots values m).made)
    (adds : (site function : ℕ) (roots : List Root) (values : List Value) (m : Made) →
    Adds S C (call_of site function ∷ []) m (calls C.here site function roots values m).made) where
  -- ---- what is made

  pub optional_grows : (e : Option Expression) (m : Made) →
      Grows (calls_in_optional e) m (optional_code calls C.here e m).made
  optional_grows e m =
      optional_makes Grows grows_same grows_before (grows_with OfValue) (grows_with OfFlag) calls C.here grows e m

  pub statement_grows : (exit : ℕ) (s : Statement) (m : Made) →
      Grows (calls_of s) m (statement_code calls C.here exit s m).made
  statement_grows exit s m =
      statement_makes Grows grows_same grows_before (grows_with OfValue) (grows_with OfFlag) calls C.here grows exit s m

  pub list_grows : (exit : ℕ) (guarded : Test) (list : Statements) (m : Made) →
      Grows (calls_of_all list) m (list_code calls C.here exit guarded list m).made
  list_grows exit guarded list m =
      list_makes Grows grows_same grows_before (grows_with OfValue) (grows_with OfFlag) calls C.here grows exit
      guarded list m

  pub arms_grow : (exit site : ℕ) (chosen fallen : Rattle.kir.specs.declared.line.Atom.Atom) (k : ℕ) (arms : Arms)
      (m : Made) → Grows (calls_of_arms arms) m (arms_code calls C.here exit site chosen fallen k arms m).made
  arms_grow exit site chosen fallen k arms m =
      arms_make Grows grows_same grows_before (grows_with OfValue) (grows_with OfFlag) calls C.here grows exit site
      chosen fallen k arms m

  pub optional_adds : (e : Option Expression) (m : Made) →
      Adds S C (calls_in_optional e) m (optional_code calls C.here e m).made
  optional_adds e m = optional_makes (Adds S C) (adds_same S C) (adds_before S C) (λ m of. adds_same S C m)
      (λ m of. adds_same S C m) calls C.here adds e m

  pub statement_adds : (exit : ℕ) (s : Statement) (m : Made) →
      Adds S C (calls_of s) m (statement_code calls C.here exit s m).made
  statement_adds exit s m = statement_makes (Adds S C) (adds_same S C) (adds_before S C) (λ m of. adds_same S C m)
      (λ m of. adds_same S C m) calls C.here adds exit s m

  pub list_adds : (exit : ℕ) (guarded : Test) (list : Statements) (m : Made) →
      Adds S C (calls_of_all list) m (list_code calls C.here exit guarded list m).made
  list_adds exit guarded list m =
      list_makes (Adds S C) (adds_same S C) (adds_before S C) (λ m of. adds_same S C m) (λ m of. adds_same S C m)
      calls C.here adds exit guarded list m

  module _ (scope : Scope) (cell : Option ℕ) (exit : ℕ) (way : Way) where
    -- ---- the parts of a statement

    pub do_part : (e : Expression) (m : Made) → ReadyStatement S C calls scope cell exit way (Do e) m →
        ReadyExpression S C calls scope (further way (Operand 0)) e m
    unfolding statement_code
    do_part e m r = record {
      sound = r.sound;
      leads = further_leads S way (Operand 0) (λ along v. IsInScope (IsInBody S.program C.depth)
          (owned_by C.function scope) e along v) (λ begun along v h. r.leads begun (Operand 0 ∷ along) v h);
      next = r.next;
      within = r.within;
      low = r.low;
    }

    pub declare_part : (x : ℕ) (e : Expression) (m : Made) →
        ReadyStatement S C calls scope cell exit way (Declare x (Some e)) m →
        ReadyExpression S C calls scope (further way (Operand 0)) e m
    unfolding statement_code
    declare_part x e m r = record {
      sound = r.sound.1;
      leads = further_leads S way (Operand 0) (λ along v. IsInScope (IsInBody S.program C.depth)
          (owned_by C.function scope) e along v) (λ begun along v h. r.leads begun (Operand 0 ∷ along) v h);
      next = r.next;
      within = r.within;
      low = r.low;
    }

    pub return_part : (site : ℕ) (e : Expression) (m : Made) →
        ReadyStatement S C calls scope cell exit way (Return site (Some e)) m →
        ReadyExpression S C calls scope (further way (Operand 0)) e m
    unfolding statement_code
    return_part site e m r = record {
      sound = r.sound.1;
      leads = further_leads S way (Operand 0) (λ along v. IsInScope (IsInBody S.program C.depth)
          (owned_by C.function scope) e along v) (λ begun along v h. r.leads begun (Operand 0 ∷ along) v h);
      next = r.next;
      within = r.within;
      low = r.low;
    }

    pub fill_part : (site array : ℕ) (values : Expressions) (m : Made) →
        ReadyStatement S C calls scope cell exit way (Fill site array values) m →
        ReadyOperands S C calls scope way 0 values m
    unfolding statement_code
    fill_part site array values m r = record {
      sound = r.sound.1;
      leads = λ begun n i e along v h. subst (λ z. IsScopedAt S.program (way begun ++ Operand z ∷ along) v)
          (let same : i ≡ n = omega (arith, e) in same) (r.leads begun (Operand i ∷ along) v h);
      next = r.next;
      within = r.within;
      low = r.low;
    }

    pub block_part : (list : Statements) (m : Made) → ReadyStatement S C calls scope cell exit way (Block list) m →
        ReadyList S C calls scope cell exit way 0 false list m
    unfolding statement_code
    block_part list m r = record {
      sound = r.sound;
      leads = λ begun n i e along v h. subst (λ z. IsScopedAt S.program (way begun ++ Nth z ∷ along) v)
          (let same : i ≡ n = omega (arith, e) in same) (r.leads begun (Nth i ∷ along) v h);
      next = r.next;
      within = r.within;
      low = r.low;
      inner = r.inner;
      ended = r.ended;
      exits = r.exits;
      has_exit = r.has_exit;
    }

    pub if_test : (site : ℕ) (test : Expression) (chosen other : Statements) (m : Made) →
        ReadyStatement S C calls scope cell exit way (If site test chosen other) m →
        ReadyExpression S C calls scope (further way Tested) test m
    unfolding statement_code
    if_test site test chosen other m r =
        let ct = expression_code calls C.here test m in
        let cy = list_code calls C.here exit false chosen ct.made in
        let cn = list_code calls C.here exit false other cy.made in
        record {
          sound = r.sound.0;
          leads = further_leads S way Tested (λ along v. IsInScope (IsInBody S.program C.depth)
              (owned_by C.function scope) test along v) (λ begun along v h. r.leads begun (Tested ∷ along) v h);
          next = next_left S C m (calls_in test) (calls_of_all chosen ++ calls_of_all other) r.next;
          within = within_less S (calls_of_all chosen) ct.made cy.made (list_grows exit false chosen ct.made)
              (within_less S (calls_of_all other) cy.made cn.made (list_grows exit false other cy.made) r.within);
          low = r.low;
        }

    pub if_chosen : (site : ℕ) (test : Expression) (chosen other : Statements) (m : Made) →
        ReadyStatement S C calls scope cell exit way (If site test chosen other) m
        → ReadyList S C calls scope cell exit (further way Chosen) 0 false chosen
        (expression_code calls C.here test m).made
    unfolding statement_code
    if_chosen site test chosen other m r =
        let ct = expression_code calls C.here test m in
        let cy = list_code calls C.here exit false chosen ct.made in
        let cn = list_code calls C.here exit false other cy.made in
        let g = grows_count (calls_in test) m ct.made (expression_grows S C calls grows adds test m) in
        let l = r.low in
        record {
          sound = r.sound.1;
          leads = λ begun n i e along v h. subst (λ z. IsScopedAt S.program z v)
              (sym (append_assoc (way begun) (Chosen ∷ []) (Nth n ∷ along)))
              (subst (λ z. IsScopedAt S.program (way begun ++ Chosen ∷ Nth z ∷ along) v) (let same : i ≡
              n = omega (arith, e) in same) (r.leads begun (Chosen ∷ Nth i ∷ along) v h));
          next = next_left S C ct.made (calls_of_all chosen) (calls_of_all other)
              (next_right S C m ct.made (calls_in test) (calls_of_all chosen ++ calls_of_all other) r.next
              (expression_adds S C calls grows adds test m));
          within = within_less S (calls_of_all other) cy.made cn.made (list_grows exit false other cy.made) r.within;
          low = omega (arith, g, l);
          inner = r.inner;
          ended = λ x p. r.ended x (omega (arith, p));
          exits = exit_more S C cell exit m ct.made g r.exits;
          has_exit = exit_first cell exit (way_out_of_all true true chosen) (way_out_of_all true true other) r.has_exit;
        }

    pub if_other : (site : ℕ) (test : Expression) (chosen other : Statements) (m : Made) →
        ReadyStatement S C calls scope cell exit way (If site test chosen other) m
        → ReadyList S C calls scope cell exit (further way Other) 0 false other
        (list_code calls C.here exit false chosen (expression_code calls C.here test m).made).made
    unfolding statement_code
    if_other site test chosen other m r =
        let ct = expression_code calls C.here test m in
        let cy = list_code calls C.here exit false chosen ct.made in
        let g = grows_count (calls_in test) m ct.made (expression_grows S C calls grows adds test m) in
        let g2 = grows_count (calls_of_all chosen) ct.made cy.made (list_grows exit false chosen ct.made) in
        let l = r.low in
        record {
          sound = r.sound.2;
          leads = λ begun n i e along v h. subst (λ z. IsScopedAt S.program z v)
              (sym (append_assoc (way begun) (Other ∷ []) (Nth n ∷ along)))
              (subst (λ z. IsScopedAt S.program (way begun ++ Other ∷ Nth z ∷ along) v) (let same : i ≡
              n = omega (arith, e) in same) (r.leads begun (Other ∷ Nth i ∷ along) v h));
          next = next_right S C ct.made cy.made (calls_of_all chosen) (calls_of_all other)
              (next_right S C m ct.made (calls_in test) (calls_of_all chosen ++ calls_of_all other) r.next
              (expression_adds S C calls grows adds test m)) (list_adds exit false chosen ct.made);
          within = r.within;
          low = omega (arith, g, g2, l);
          inner = r.inner;
          ended = λ x p. r.ended x (omega (arith, p));
          exits = exit_more S C cell exit m cy.made (omega (arith, g, g2)) r.exits;
          has_exit =
              exit_second cell exit (way_out_of_all true true chosen) (way_out_of_all true true other) r.has_exit;
        }

    -- ---- the parts of a list

    pub list_first : (k : ℕ) (guarded : Test) (s : Statement) (rest : Statements) (m : Made) →
        ReadyList S C calls scope cell exit way k guarded (also s rest) m →
        ReadyStatement S C calls scope cell exit (further way (Nth k)) s m
    unfolding statement_code
    list_first k guarded s rest m r =
        let declared = guarded && declares s in
        let out = way_out true true s in
        let cs = statement_code calls C.here exit s m in
        let cr = list_code calls C.here exit (is_guarded declared out guarded) rest cs.made in
        record {
          sound = r.sound.0;
          leads = further_leads S way (Nth k) (λ along v. IsInScopeAt (IsInBody S.program C.depth) C.function
              (owned_by C.function scope) s along v) (λ begun along v h. r.leads begun k 0 (omega arith) along v h);
          next = next_left S C m (calls_of s) (calls_of_all rest) r.next;
          within = within_less S (calls_of_all rest) cs.made cr.made
              (list_grows exit (is_guarded declared out guarded) rest cs.made)
              (subst (Within S) (before_rest_made exit declared out cs.lines cr) r.within);
          low = r.low;
          inner = r.inner;
          ended = λ x p. r.ended x (omega (arith, p));
          exits = r.exits;
          has_exit = exit_first cell exit out (way_out_of_all true true rest) r.has_exit;
        }

    pub list_rest : (k : ℕ) (guarded : Test) (s : Statement) (rest : Statements) (m : Made) →
        ReadyList S C calls scope cell exit way k guarded (also s rest) m
        → ReadyList S C calls (scope_after scope s) cell exit way (suc k)
        (is_guarded (guarded && declares s) (way_out true true s) guarded) rest
        (statement_code calls C.here exit s m).made
    unfolding statement_code
    list_rest k guarded s rest m r =
        let declared = guarded && declares s in
        let out = way_out true true s in
        let cs = statement_code calls C.here exit s m in
        let cr = list_code calls C.here exit (is_guarded declared out guarded) rest cs.made in
        let g = grows_count (calls_of s) m cs.made (statement_grows exit s m) in
        let l = r.low in
        record {
          sound = r.sound.1;
          leads = λ begun n i e along v h. r.leads begun n (suc i) (omega (arith, e)) along v
              (list_behind (IsInBody S.program C.depth) C.function scope s rest i along v h);
          next = next_right S C m cs.made (calls_of s) (calls_of_all rest) r.next (statement_adds exit s m);
          within = subst (Within S) (before_rest_made exit declared out cs.lines cr) r.within;
          low = omega (arith, g, l);
          inner = within_after S C scope s r.inner r.sound.0;
          ended = λ x p. r.ended x (omega (arith, p));
          exits = exit_more S C cell exit m cs.made g r.exits;
          has_exit = exit_second cell exit out (way_out_of_all true true rest) r.has_exit;
        }

    -- where the program's item goes on behind a declaration, its variable is in scope, or never
    pub comes_behind : (k : ℕ) (guarded : Test) (s : Statement) (rest : Statements) (m : Made) →
        ReadyList S C calls scope cell exit way k guarded (also s rest) m →
        (begun : List ℕ) (ts : List Task) (x : ℕ) → 0 < declares_it s x →
        (vs : List Rattle.std.proofs.Common.ℤ) (vars : Store)
        → Comes S (own_variable C x) (inside S C (in_order (way begun) (suc k) rest ts) vs vars)
    comes_behind k guarded s empty m r begun ts x p vs vars = never (r.ended x (omega (arith, p)))
    comes_behind k guarded s (also s' rest) m r begun ts x p vs vars =
        comes_now S C (scope_after scope s) (in_order (way begun) (suc k) (also s' rest) ts) vs vars x
        (record {
          point = way begun ++ Nth (suc k) ∷ [];
          stands = refl;
          scoped = λ y has. r.leads begun (suc k) 1 (omega arith) [] (record { function = C.function; variable = y })
              (list_behind (IsInBody S.program C.depth) C.function scope s (also s' rest) 0 []
              (record { function = C.function; variable = y })
              (here_in_statement (IsInBody S.program C.depth) C.function (owned_by C.function (scope_after scope s))
              s' (record { function = C.function; variable = y })
              (has_owned C.function (scope_after scope s) y has)));
        })
        (declared_has scope s x p)
