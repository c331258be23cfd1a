-- The code of expressions and statements is fine.
use Rattle.std.proofs.Common.{◌≡◌, ℕ, ◌+◌, ◌<◌, length, List, [], ◌∷◌, refl, sym, ◌∙◌, subst, ◌⊎◌, inl, inr}
use Rattle.std.proofs.Common.{Bool as Test, true, false}
use Rattle.std.specs.Prelude.{◌||◌}
use Rattle.std.proofs.lemmas.Bool.{or_left, or_right}
use Rattle.wg_num.specs.declared.types.IntType.{IntType}
use Rattle.cl_model.specs.declared.program.Root.{Root}
use Rattle.cl_model.specs.Tree as tree
use Rattle.cl_model.specs.Tree.{Action, Expression, Apply, Update, Choose, Call, Expressions, none, more}
use Rattle.cl_model.specs.Tree.{Program, Function}
use Rattle.cl_model.specs.Lists.{IsOneOf}
use Rattle.cl_model.specs.Calls.{function_at}
use Rattle.cl_model.specs.Valid.{Scope, Has, ActionNames, HasType, HaveTypes, NamesIn, NamesAmong, parameter_kinds}
use Rattle.cl_model.specs.Valid.{binary_type}
use Rattle.cl_model.specs.Varying.{Subject, AVariable, AResult, AnExpression, Varies, own_id, loaded, named, operand}
use Rattle.cl_model.specs.Varying.{stored, updated, tested, chosen, otherwise, called, passed, returning}
use Rattle.cl_model.specs.Varying.{return_under, return_beside, assigned, assigned_under, exit_under}
use Rattle.kir.specs.declared.line.Atom.{Atom}
use Rattle.kir.specs.declared.line.Atom.TheVariants.{Cell as CellAtom}
use Rattle.kir.specs.Tree.{Variable, Lines, NoLine, SetThen, LoadThen, StoreThen, ClearThen, IfThen, LoopThen}
use Rattle.kir.specs.Tree.{BarrierThen, joined_to, OfValue, Kernel}
use Rattle.kir.specs.Live.{reads, some_reads, live_in}
use Rattle.kir.specs.Cuts.{holds_barrier}
use Rattle.kir.specs.Homes.{IsCellOf}
use Rattle.kir.specs.Inlined.{Text, Inlining, variable_of, expression_before, expressions_before, holds_in}
use Rattle.kir.specs.Inlined.{holds_among, has_cut, scopes_of, Crosses}
use Rattle.kir_lower.specs.declared.places.Value.{Value}
use Rattle.kir_lower.specs.Made.{Made, Instance, next_cell, with_cell, root_in, argument_roots}
use Rattle.kir_lower.specs.Actions.{first, second, atoms_of, changed, set_to, stored as stored_line, action_code}
use Rattle.kir_lower.specs.Code.{Calls, expression_code, operands_code}
use Rattle.kir_uniform.proofs.Living.{true_or_false, or_either, live_behind_or}
use Rattle.kir_uniform.proofs.Alike.{same_number}
use Rattle.kir_lower_shape.proofs.Quiet.{Quiet, or_parts, or_false, quiet_less, live_joined}
use Rattle.kir_lower_shape.proofs.Steps.{IsApart}
use Rattle.kir_lower_shape.proofs.Scoped.{argument_count}
use Rattle.kir_lower_shape.proofs.AbsentCode.{CallsUp}
use Rattle.kir_lower_shape.proofs.Anew.{CallsQuiet, expression_quiet, operands_quiet}
use Rattle.kir_lower_shape.proofs.Cutless.{Cutless, cutless_then, expression_cutless}
use Rattle.kir_lower_uniform.proofs.UnsetCode.{operand_count}
use Rattle.kir_lower_uniform.proofs.Ground.{Even, Grown, value_not_even, back_value, action_back, CallsBack}
use Rattle.kir_lower_uniform.proofs.Ground.{expression_back, operands_back}
use Rattle.kir_lower_uniform.proofs.Fresh.{AtomIn, AllIn, CallsFresh, atom_not_read, values_not_read, first_in}
use Rattle.kir_lower_uniform.proofs.Fresh.{second_in, expression_in, operands_in}
use Rattle.kir_lower_uniform.proofs.Setting.{ScopeWithin, in_scope_or_apart}
use Rattle.kir_lower_uniform.proofs.Fine.{Fine}
use Rattle.kir_lower_uniform.proofs.FineRules.{In, Good, ReadsIn, in_before, fine_reads, fine_if, fine_joined, Ok}
use Rattle.kir_lower_uniform.proofs.FineRules.{ok_expression, ok_expressions}

-- a program in which nothing varies, so that the cells of all variables are those of variables that do not vary
abbrev pub nothing : Program
nothing = record { tables = []; functions = []; kernel = 0; sites = [] }

abbrev NoVariable : Subject → Type 0
NoVariable (AVariable f x) = ⊥
NoVariable (AResult f) = Unit {0}
NoVariable (AnExpression f e) = Unit {0}

none_varies : (s : Subject) → Varies nothing s → NoVariable s
none_varies s (own_id h) = tt
none_varies s (loaded h) = tt
none_varies s (named h) = tt
none_varies s (operand h i v) = tt
none_varies s (stored i v) = tt
none_varies s updated = tt
none_varies s (tested v) = tt
none_varies s (chosen v) = tt
none_varies s (otherwise v) = tt
none_varies s (called v) = tt
none_varies s (passed site roots arguments h i n v) = absurd i
none_varies s (returning i v) = tt
none_varies s (return_under c i v r) = tt
none_varies s (return_beside c i v e r) = tt
none_varies s (assigned i h v) = absurd i
none_varies s (assigned_under c i v h a) = absurd i
none_varies s (exit_under c i v h e a) = absurd i

module _ (program : Program) (kernel : Kernel) where
  pub cell_is_variable : (v : Variable) (c : ℕ) → IsCellOf kernel v c → Even nothing kernel c
  cell_is_variable v c i =
      record { variable = v; cell = i; steady = λ h. none_varies (AVariable v.function v.number) h }

  abbrev pub FineLines : (ℕ → Test) → Lines → Type 0
  FineLines out lines = Fine program kernel out lines

  abbrev pub InLive : (Variable → Type 0) → (ℕ → Test) → Type 0
  InLive X live = In program kernel X live

  -- the variables that can be named, and those around
  abbrev pub Named : Inlining → (Variable → Type 0) → Scope → Variable → Type 0
  Named at X0 scope v = ((y : ℕ) × Has scope y × (v ≡ variable_of at y)) ⊎ X0 v

  -- some variables of a block, which cross where this is so
  pub record Around (X : Variable → Type 0) (S : List Variable) (b : Test) : Type 0 where
    pub inside : (v : Variable) → X v → IsOneOf S v
    pub block : IsOneOf (scopes_of program) S
    pub cross : b ≡ true → (v : Variable) → X v → Crosses program v

  pub around_good : (X : Variable → Type 0) (S : List Variable) (b : Test) → Around X S b → Good program kernel X b
  around_good X S b a =
      record { meet = λ v w x y disjoint. disjoint S a.block (a.inside v x) (a.inside w y); cross = a.cross }

  pub around_less : (X : Variable → Type 0) (S : List Variable) (a b : Test) → (b ≡ true → a ≡ true) → Around X S a →
      Around X S b
  around_less X S a b h k = record { inside = k.inside; block = k.block; cross = λ e. k.cross (h e) }

  -- calls are fine
  abbrev pub CallsFine : Inlining → Calls → Instance → Type 1
  CallsFine at calls here =
      (site g : ℕ) (roots : List Root) (values : List Value) (a : ℕ) (m : Made) (out : ℕ → Test) (X : Variable →
      Type 0) (S : List Variable) (t : Text) → g < length program.functions →
      length values ≡ length (parameter_kinds (function_at program g))
      → AllIn nothing kernel a (next_cell m) values → Grown nothing kernel (calls here site g roots values m).made →
      Around X S (at.inside g) → Ok program kernel S (at.called site g t) → InLive X out →
      FineLines out (calls here site g roots values m).lines

  pub record Standing (at : Inlining) (fn : ℕ) (calls : Calls) (here : Instance) : Type 1 where
    pub up : CallsUp calls
    pub quiet : (c : ℕ) → CallsQuiet program c calls
    pub back : CallsBack nothing kernel calls
    pub fresh : CallsFresh nothing kernel calls here
    pub own : (y : ℕ) (v : Variable) → y < length (function_at program fn).variables →
        IsCellOf kernel v (here.base + y) → v ≡ variable_of at y
    pub own_cell : (y : ℕ) → y < length (function_at program fn).variables →
        IsCellOf kernel (variable_of at y) (here.base + y)
    pub one : (v : Variable) (c d : ℕ) → IsCellOf kernel v c → IsCellOf kernel v d → c ≡ d
    pub cut_keeps : (site g : ℕ) (t : Text) → has_cut t ≡ true → has_cut (at.called site g t) ≡ true
    pub cut_there : (site g : ℕ) (t : Text) → at.inside g ≡ true → has_cut (at.called site g t) ≡ true
    pub tail : (S : List Variable) (site g : ℕ) (t : Text) → Ok program kernel S (at.called site g t) →
        Ok program kernel S t
    pub cutless : (there : Instance) (site g : ℕ) (roots : List Root) (values : List Value) (m : Made) →
        at.inside g ≡ false → Cutless (calls there site g roots values m).lines
    pub call : CallsFine at calls here

  -- lines before others
  pub in_joined : (X : Variable → Type 0) (a b : Lines) (out : ℕ → Test) →
      InLive X (λ c. live_in c a (live_in c b (out c))) → InLive X (λ c. live_in c (joined_to a b) (out c))
  in_joined X a b out h v c i l = h v c i (sym (live_joined c a b (out c)) ∙ l)

  module _ (at : Inlining) (fn : ℕ) (calls : Calls) (here : Instance) (set : Standing at fn calls here)
      (X0 : Variable → Type 0) where
    abbrev F : Function
    F = function_at program fn

    abbrev Size : ℕ
    Size = length (function_at program fn).variables

    abbrev Var : ℕ → Type 0
    Var = Even nothing kernel

    abbrev pub X : Scope → Variable → Type 0
    X scope v = Named at X0 scope v

    abbrev Within : Scope → Type 0
    Within scope = ScopeWithin nothing kernel here Size scope

    -- what is live before lines, where no cell of another variable is
    pub in_quiet : (lines : Lines) (scope : Scope) (out : ℕ → Test) → Within scope →
        ((c : ℕ) → Var c → IsApart c here scope → Quiet c lines false) → InLive (X scope) out →
        InLive (X scope) (λ c. live_in c lines (out c))
    in_quiet lines scope out within quiet n v c i l =
        elim (in_scope_or_apart nothing kernel here c scope) [
          | inl k ↦ inl (k.0, k.1, set.own k.0 v (within k.0 k.1) (subst (IsCellOf kernel v) k.2 i))
          | inr k ↦ elim (live_behind_or c lines (out c) l) [
            | inl t ↦ absurd (let f = (quiet c (cell_is_variable v c i) k).is in let z : true ≡ false = sym t ∙ f in cc)
            | inr t ↦ n v c i t
          ]
        ]

    -- an atom that is none of a variable
    pub in_atom : (scope : Scope) (a b : ℕ) (x : Atom) → AtomIn nothing kernel a b x → InLive (X scope) (λ c. reads c x)
    in_atom scope a b x h v c i e = absurd (let f = atom_not_read nothing kernel a b x c h (cell_is_variable v c i) in
        let z : true ≡ false = sym e ∙ f in cc)

    pub in_values : (scope : Scope) (a b : ℕ) (values : List Value) → AllIn nothing kernel a b values →
        InLive (X scope) (λ c. some_reads c (atoms_of values))
    in_values scope a b values h v c i e =
        absurd (let f = values_not_read nothing kernel a b values c h (cell_is_variable v c i) in
        let z : true ≡ false = sym e ∙ f in cc)

    pub in_cell : (scope : Scope) (n : ℕ) → (Var n → ⊥) → InLive (X scope) (λ c. reads c (CellAtom n))
    in_cell scope n h v c i e = absurd (h (subst Var (same_number c n e) (cell_is_variable v c i)))

    pub in_two : (scope : Scope) (f g : ℕ → Test) → InLive (X scope) f → InLive (X scope) g →
        InLive (X scope) (λ c. f c || g c)
    in_two scope f g h k v c i e = elim (or_either (f c) (g c) e) [ inl x ↦ h v c i x | inr y ↦ k v c i y ]

    pub in_none : (scope : Scope) → InLive (X scope) (λ c. false)
    in_none scope v c i e = absurd (let z : false ≡ true = e in cc)

    changed_reads : (scope : Scope) (op : _) (of bk : IntType) (was by : Atom) (m : Made) →
        InLive (X scope) (λ c. reads c was) → InLive (X scope) (λ c. reads c by) →
        Grown nothing kernel (changed op of bk was by m).made →
        ReadsIn program kernel (X scope) (changed op of bk was by m).lines
    changed_reads scope op of bk was by m h k g =
        let m1 = with_cell m OfValue of in
        let m2 = with_cell m1 OfValue (binary_type op of) in
        let g2 = back_value nothing kernel m2 bk g in
        let g1 = back_value nothing kernel m1 (binary_type op of) g2 in (
          h,
          (
            in_two scope (λ c. reads c (CellAtom (next_cell m))) (λ c. reads c by)
                (in_cell scope (next_cell m) (value_not_even nothing kernel m of g1)) k,
            (in_cell scope (next_cell m1) (value_not_even nothing kernel m1 (binary_type op of) g2), tt),
          ),
        )

    changed_value : (op : _) (of bk : IntType) (was by : Atom) (m : Made) →
        Grown nothing kernel (changed op of bk was by m).made →
        Var (next_cell (with_cell (with_cell m OfValue of) OfValue (binary_type op of))) → ⊥
    changed_value op of bk was by m g =
        value_not_even nothing kernel (with_cell (with_cell m OfValue of) OfValue (binary_type op of)) bk g

    pub reads_joined : (scope : Scope) (a b : Lines) → ReadsIn program kernel (X scope) a →
        ReadsIn program kernel (X scope) b → ReadsIn program kernel (X scope) (joined_to a b)
    reads_joined scope NoLine b h k = k
    reads_joined scope (SetThen to work rest) b h k = (h.0, reads_joined scope rest b h.1 k)
    reads_joined scope (LoadThen site to element root index rest) b h k = (h.0, reads_joined scope rest b h.1 k)
    reads_joined scope (StoreThen site element root index from rest) b h k = (h.0, reads_joined scope rest b h.1 k)
    reads_joined scope (ClearThen array rest) b h k = reads_joined scope rest b h k
    reads_joined scope (IfThen site test chosen_ other_ rest) b h k = (h.0, h.1, h.2, reads_joined scope rest b h.3 k)
    reads_joined scope (LoopThen site first_ test answer body rest) b h k = absurd h
    reads_joined scope (BarrierThen site rest) b h k = absurd h

    action_reads : (scope : Scope) (action : Action) (values : List Value) (a : ℕ) (m : Made) →
        ActionNames scope action → Within scope → AllIn nothing kernel a (next_cell m) values →
        Grown nothing kernel (action_code here action values m).made
        → ReadsIn program kernel (X scope) (action_code here action values m).lines
    action_reads scope (tree.Literal v of) values a m n w h g = tt
    action_reads scope (tree.Variable x) values a m n w h g = (
      (λ v c i e. inl (x, n, set.own x v (w x n) (subst (IsCellOf kernel v) (same_number c (here.base + x) e) i))),
      tt,
    )
    action_reads scope (tree.Unary op of) values a m n w h g =
        (in_atom scope a (next_cell m) (first values).atom (first_in nothing kernel a (next_cell m) values h), tt)
    action_reads scope (tree.Binary op of) values a m n w h g = (
      in_two scope (λ c. reads c (first values).atom) (λ c. reads c (second values).atom)
          (in_atom scope a (next_cell m) (first values).atom (first_in nothing kernel a (next_cell m) values h))
          (in_atom scope a (next_cell m) (second values).atom (second_in nothing kernel a (next_cell m) values
          h)),
      tt,
    )
    action_reads scope (tree.Builtin f of) values a m n w h g = (in_values scope a (next_cell m) values h, tt)
    action_reads scope (tree.Convert to) values a m n w h g =
        (in_atom scope a (next_cell m) (first values).atom (first_in nothing kernel a (next_cell m) values h), tt)
    action_reads scope (tree.Ask what) values a m n w h g =
        (in_atom scope a (next_cell m) (first values).atom (first_in nothing kernel a (next_cell m) values h), tt)
    action_reads scope tree.Second values a m n w h g = tt
    action_reads scope tree.Truth values a m n w h g = (
      in_two scope (λ c. reads c (first values).atom) (λ c. false)
          (in_atom scope a (next_cell m) (first values).atom (first_in nothing kernel a (next_cell m) values h))
          (in_none scope),
      tt,
    )
    action_reads scope (tree.Decided answer) values a m n w h g = tt
    action_reads scope (tree.Set x) values a m n w h g =
        (in_atom scope a (next_cell m) (first values).atom (first_in nothing kernel a (next_cell m) values h), tt)
    action_reads scope (tree.Change x op of bk old) values a m n w h g =
        reads_joined scope (changed op of bk (first values).atom (second values).atom m).lines
        (set_to (here.base + x) (changed op of bk (first values).atom (second values).atom m).value.atom)
        (changed_reads scope op of bk (first values).atom (second values).atom m
        (in_atom scope a (next_cell m) (first values).atom (first_in nothing kernel a (next_cell m) values h))
        (in_atom scope a (next_cell m) (second values).atom (second_in nothing kernel a (next_cell m) values h))
        g)
        (in_cell scope _ (changed_value op of bk (first values).atom (second values).atom m g), tt)
    action_reads scope (tree.Load site element root) values a m n w h g =
        (in_atom scope a (next_cell m) (first values).atom (first_in nothing kernel a (next_cell m) values h), tt)
    action_reads scope (tree.Store site element root) values a m n w h g = (
      in_two scope (λ c. reads c (first values).atom) (λ c. reads c (second values).atom)
          (in_atom scope a (next_cell m) (first values).atom (first_in nothing kernel a (next_cell m) values h))
          (in_atom scope a (next_cell m) (second values).atom (second_in nothing kernel a (next_cell m) values
          h)),
      tt,
    )

    -- a barrier in a branch is one in the expression
    pub held_by : (b : Test) (y n : Lines) → (b ≡ false → Cutless y × Cutless n) →
        (holds_barrier y || holds_barrier n) ≡ true → b ≡ true
    held_by b y n h e =
        elim (true_or_false b) [
          | inl t ↦ t
          | inr f ↦ let k = h f in let z : true ≡ false =
              sym e ∙ or_false (holds_barrier y) (holds_barrier n) k.0.is k.1.is in absurd (cc z)
        ]

    mutual
      unfolding expression_code

      pub expression_fine : (e : Expression) (ty : IntType) (scope : Scope) (m : Made) (out : ℕ →
          Test) (S : List Variable) (t : Text) → HasType program F e ty → NamesIn scope e → Within scope →
          Grown nothing kernel (expression_code calls here e m).made
          → Around (X scope) S (holds_in at.inside e) → Ok program kernel S (expression_before at.called e t) →
          InLive (X scope) out → FineLines out (expression_code calls here e m).lines
      expression_fine (Apply action operands) ty scope m out S t h n w g around ok live =
          let co = operands_code calls here operands m in
          let ca = action_code here action co.values co.made in
          let gc = action_back nothing kernel here action co.values co.made g in
          let all = operands_in nothing kernel calls set.up set.back here set.fresh operands m gc in
          let r = action_reads scope action co.values (next_cell m) co.made n.0 w all g in
          fine_joined program kernel out ca.lines
          (fine_reads program kernel (X scope) (holds_among at.inside operands) ca.lines out r live
          (around_good (X scope) S (holds_among at.inside operands) around)) co.lines
          (operands_fine operands h.0 scope m (λ c. live_in c ca.lines (out c)) S t h.1 n.1 w gc around ok
          (in_before program kernel (X scope) ca.lines out r live))
      expression_fine (Update site element root op of bk old index value) ty scope m out S t h n w g around ok live =
          let b = holds_in at.inside index || holds_in at.inside value in
          let ci = expression_code calls here index m in
          let k = next_cell ci.made in
          let ml = with_cell ci.made OfValue element in
          let cv = expression_code calls here value ml in
          let m1 = with_cell cv.made OfValue of in
          let m2 = with_cell m1 OfValue (binary_type op of) in
          let cc_ = changed op of bk (CellAtom k) cv.value.atom cv.made in
          let st = stored_line site element (root_in here root) ci.value.atom cc_.value.atom in
          let gv = back_value nothing kernel cv.made of (back_value nothing kernel m1 (binary_type op of)
          (back_value nothing kernel m2 bk g)) in
          let gl = expression_back nothing kernel calls set.back here value ml gv in
          let gi = back_value nothing kernel ci.made element gl in
          let in_index = in_atom scope (next_cell m) k ci.value.atom
          (expression_in nothing kernel calls set.up set.back here set.fresh index m gi) in
          let in_value = in_atom scope (next_cell ml) (next_cell cv.made) cv.value.atom
          (expression_in nothing kernel calls set.up set.back here set.fresh value ml gv) in
          let in_k = in_cell scope k (value_not_even nothing kernel ci.made element gl) in
          let last = joined_to cc_.lines st in
          let r : ReadsIn program kernel (X scope) last =
          reads_joined scope cc_.lines st (changed_reads scope op of bk (CellAtom k) cv.value.atom cv.made in_k
          in_value g) (
            in_two scope (λ c. reads c ci.value.atom) (λ c. reads c cc_.value.atom) in_index
                (in_cell scope (next_cell m2) (changed_value op of bk (CellAtom k) cv.value.atom cv.made g)),
            tt,
          ) in
          let good = around_good (X scope) S b around in
          let live2 = in_before program kernel (X scope) last out r live in
          let fine2 = fine_reads program kernel (X scope) b last out r live good in
          let rest = joined_to cv.lines last in
          let live1 = in_joined (X scope) cv.lines last out (in_quiet cv.lines scope (λ c. live_in c last (out c)) w
          (λ c e ap_. quiet_less c cv.lines _ (expression_quiet program c calls (set.quiet c) F here value h.1.0
          scope h.1.1 n.1 ap_ ml)) live2) in
          let ok1 = ok_expression program kernel at set.tail S index (expression_before at.called value t) ok in
          let fine1 = fine_joined program kernel out last fine2 cv.lines
          (expression_fine value h.1.0 scope ml (λ c. live_in c last (out c)) S t h.1.1 n.1 w gv
          (around_less (X scope) S b (holds_in at.inside value) (λ e. or_right (holds_in at.inside index) _ e)
          around) ok1 live2) in
          let load = LoadThen site k element (root_in here root) ci.value.atom NoLine in
          let r0 : ReadsIn program kernel (X scope) load = (in_index, tt) in
          let live0 = in_before program kernel (X scope) load (λ c. live_in c rest (out c)) r0 live1 in
          let fine0 = fine_joined program kernel out rest fine1 load
          (fine_reads program kernel (X scope) b load (λ c. live_in c rest (out c)) r0 live1 good) in
          fine_joined program kernel out (joined_to load rest) fine0 ci.lines
          (expression_fine index _ scope m (λ c. live_in c (joined_to load rest) (out c)) S
          (expression_before at.called value t) h.0 n.0 w gi
          (around_less (X scope) S b (holds_in at.inside index) (λ e. or_left (holds_in at.inside index) _ e)
          around) ok (in_joined (X scope) load rest out live0))
      expression_fine (Choose site test yes_ no_) ty scope m out S t h n w g around ok live =
          let b = holds_in at.inside test || (holds_in at.inside yes_ || holds_in at.inside no_) in
          let ct = expression_code calls here test m in
          let cy = expression_code calls here yes_ ct.made in
          let cn = expression_code calls here no_ cy.made in
          let r = next_cell cn.made in
          let sy = set_to r cy.value.atom in
          let sn = set_to r cn.value.atom in
          let ly = joined_to cy.lines sy in
          let ln = joined_to cn.lines sn in
          let branch = IfThen site ct.value.atom ly ln NoLine in
          let gn = back_value nothing kernel cn.made cy.value.of g in
          let gy = expression_back nothing kernel calls set.back here no_ cy.made gn in
          let gt = expression_back nothing kernel calls set.back here yes_ ct.made gy in
          let good = around_good (X scope) S b around in
          let in_test = in_atom scope (next_cell m) (next_cell ct.made) ct.value.atom
          (expression_in nothing kernel calls set.up set.back here set.fresh test m gt) in
          let ry : ReadsIn program kernel (X scope) sy = (
            in_atom scope (next_cell ct.made) (next_cell cy.made) cy.value.atom
                (expression_in nothing kernel calls set.up set.back here set.fresh yes_ ct.made gy),
            tt,
          ) in
          let rn : ReadsIn program kernel (X scope) sn = (
            in_atom scope (next_cell cy.made) (next_cell cn.made) cn.value.atom
                (expression_in nothing kernel calls set.up set.back here set.fresh no_ cy.made gn),
            tt,
          ) in
          let live_y0 = in_before program kernel (X scope) sy out ry live in
          let live_n0 = in_before program kernel (X scope) sn out rn live in
          let live_y = in_joined (X scope) cy.lines sy out (in_quiet cy.lines scope (λ c. live_in c sy (out c)) w
          (λ c e ap_. quiet_less c cy.lines _ (expression_quiet program c calls (set.quiet c) F here yes_ ty
          scope h.1 n.1 ap_ ct.made)) live_y0) in
          let live_n = in_joined (X scope) cn.lines sn out (in_quiet cn.lines scope (λ c. live_in c sn (out c)) w
          (λ c e ap_. quiet_less c cn.lines _ (expression_quiet program c calls (set.quiet c) F here no_ ty
          scope h.2 n.2 ap_ cy.made)) live_n0) in
          let t1 = expression_before at.called yes_ (expression_before at.called no_ t) in
          let ok1 = ok_expression program kernel at set.tail S test t1 ok in
          let ok2 = ok_expression program kernel at set.tail S yes_ (expression_before at.called no_ t) ok1 in
          let around_y = around_less (X scope) S b (holds_in at.inside yes_)
          (λ e. or_right (holds_in at.inside test) _ (or_left (holds_in at.inside yes_) _ e)) around in
          let around_n = around_less (X scope) S b (holds_in at.inside no_)
          (λ e. or_right (holds_in at.inside test) _ (or_right (holds_in at.inside yes_) _ e)) around in
          let fine_y = fine_joined program kernel out sy (fine_reads program kernel (X scope) b sy out ry live good)
          cy.lines (expression_fine yes_ ty scope ct.made (λ c. live_in c sy (out c)) S
          (expression_before at.called no_ t) h.1 n.1 w gy around_y ok1 live_y0) in
          let fine_n = fine_joined program kernel out sn (fine_reads program kernel (X scope) b sn out rn live good)
          cn.lines (expression_fine no_ ty scope cy.made (λ c. live_in c sn (out c)) S t h.2 n.2 w gn around_n ok2
          live_n0) in
          let held = held_by b ly ln (λ f. let p = or_parts (holds_in at.inside test) _ f in
          let q = or_parts (holds_in at.inside yes_) (holds_in at.inside no_) p.1 in (
            cutless_then cy.lines sy (expression_cutless calls at.inside set.cutless here yes_ q.0 ct.made)
                (record { is = refl }),
            cutless_then cn.lines sn (expression_cutless calls at.inside set.cutless here
                no_ q.1 cy.made) (record { is = refl }),
          )) in
          let fine_b = fine_if program kernel (X scope) b site ct.value.atom ly ln out good held in_test live live_y
          live_n fine_y fine_n in
          let live_b = in_two scope (λ c. reads c ct.value.atom) (λ c. live_in c ly (out c) || live_in c ln (out c))
          in_test (in_two scope (λ c. live_in c ly (out c)) (λ c. live_in c ln (out c)) live_y live_n) in
          fine_joined program kernel out branch fine_b ct.lines
          (expression_fine test h.0.0 scope m (λ c. live_in c branch (out c)) S t1 h.0.1 n.0 w gt
          (around_less (X scope) S b (holds_in at.inside test) (λ e. or_left (holds_in at.inside test) _ e)
          around) ok live_b)
      expression_fine (Call site g_ roots arguments) ty scope m out S t h n w g around ok live =
          let b = holds_among at.inside arguments || at.inside g_ in
          let ca = operands_code calls here arguments m in
          let cl = calls here site g_ (argument_roots here roots) ca.values ca.made in
          let ga = set.back here site g_ (argument_roots here roots) ca.values ca.made g in
          let all = operands_in nothing kernel calls set.up set.back here set.fresh arguments m ga in
          let count = operand_count program calls F here arguments h.1.0 h.1.1 m ∙
          argument_count program F (parameter_kinds (function_at program g_)) roots h.1.0 h.1.2 in
          let live1 = in_quiet cl.lines scope out w
          (λ c e ap_. quiet_less c cl.lines _ (set.quiet c here site g_ (argument_roots here roots) ca.values
          ca.made h.0.within count (values_not_read nothing kernel (next_cell m) (next_cell ca.made) ca.values
          c all e))) live in
          let ok1 = ok_expressions program kernel at set.tail S arguments (at.called site g_ t) ok in
          fine_joined program kernel out cl.lines
          (set.call site g_ (argument_roots here roots) ca.values (next_cell m) ca.made out (X scope) S t h.0.within
          count all g (around_less (X scope) S b (at.inside g_) (λ e. or_right (holds_among at.inside arguments)
          _ e) around) ok1 live) ca.lines
          (operands_fine arguments h.1.0 scope m (λ c. live_in c cl.lines (out c)) S (at.called site g_ t) h.1.1 n w
          ga (around_less (X scope) S b (holds_among at.inside arguments)
          (λ e. or_left (holds_among at.inside arguments) _ e) around) ok live1)

      pub operands_fine : (list : Expressions) (ts : List IntType) (scope : Scope) (m : Made) (out : ℕ →
          Test) (S : List Variable) (t : Text) → HaveTypes program F list ts → NamesAmong scope list →
          Within scope → Grown nothing kernel (operands_code calls here list m).made
          → Around (X scope) S (holds_among at.inside list) →
          Ok program kernel S (expressions_before at.called list t) → InLive (X scope) out →
          FineLines out (operands_code calls here list m).lines
      operands_fine none [] scope m out S t h n w g around ok live =
          fine_reads program kernel (X scope) false NoLine out tt live (around_good (X scope) S false around)
      operands_fine none (ty ∷ ts) scope m out S t h n w g around ok live = absurd h
      operands_fine (more e rest) [] scope m out S t h n w g around ok live = absurd h
      operands_fine (more e rest) (ty ∷ ts) scope m out S t h n w g around ok live =
          let b = holds_in at.inside e || holds_among at.inside rest in
          let ce = expression_code calls here e m in
          let cr = operands_code calls here rest ce.made in
          let ge = operands_back nothing kernel calls set.back here rest ce.made g in
          let live1 = in_quiet cr.lines scope out w
          (λ c ev ap_. quiet_less c cr.lines _ (operands_quiet program c calls (set.quiet c) F here rest ts scope
          h.1 n.1 ap_ ce.made)) live in
          let ok1 = ok_expression program kernel at set.tail S e (expressions_before at.called rest t) ok in
          fine_joined program kernel out cr.lines (operands_fine rest ts scope ce.made out S t h.1 n.1 w g
          (around_less (X scope) S b (holds_among at.inside rest) (λ z. or_right (holds_in at.inside e) _ z)
          around) ok1 live) ce.lines
          (expression_fine e ty scope m (λ c. live_in c cr.lines (out c)) S (expressions_before at.called rest t) h.0
          n.0 w ge (around_less (X scope) S b (holds_in at.inside e) (λ z. or_left (holds_in at.inside e) _ z)
          around) ok live1)
