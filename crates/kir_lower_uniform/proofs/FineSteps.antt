-- The code that a statement has beside its parts is fine: guards and rounds, labels and declarations, calls of
-- functions that give none, and what stands in a list before the statements behind.
use Rattle.std.proofs.Common.{◌≡◌, ℕ, ◌+◌, ◌<◌, ℤ, pos, length, List, [], ◌∷◌, Option, Some, None, refl, sym, ap, ◌∙◌}
use Rattle.std.proofs.Common.{subst, inl, inr, if◌then◌else◌}
use Rattle.std.proofs.Common.{Bool as Test, true, false}
use Rattle.std.specs.Prelude.{nat_eq, not, ◌||◌}
use Rattle.std.proofs.lemmas.Bool.{or_left, or_right, and_parts}
use Rattle.std.proofs.lemmas.Option.{none-some, slice_get_within}
use Rattle.wg_num.specs.declared.types.IntType.{IntType}
use Rattle.wg_num.specs.declared.types.IntType.TheVariants.{Int}
use Rattle.cl_model.specs.Tree.{Expression, Call, Apply, Update, Choose, Statement, Do, Declare, Fill, Block, If, Loop}
use Rattle.cl_model.specs.Tree.{Switch, Break, Continue, Return, Barrier, Statements, Arms, no_arm, arm, Program}
use Rattle.cl_model.specs.Tree.{Function}
use Rattle.cl_model.specs.Lists.{IsOneOf}
use Rattle.cl_model.specs.Calls.{function_at}
use Rattle.cl_model.specs.Valid.{Scope, OptionalFits, NamesIn, NamesInOptional, StatementFits, scope_after}
use Rattle.cl_model.specs.Valid.{parameter_kinds}
use Rattle.kir.specs.declared.line.Atom.{Atom}
use Rattle.kir.specs.declared.line.Atom.TheVariants.{Const, Cell as CellAtom}
use Rattle.kir.specs.Tree.{Variable, Copy, Lines, NoLine, SetThen, IfThen, joined_to, OfValue, Kernel}
use Rattle.kir.specs.Live.{reads, some_reads, live_in}
use Rattle.kir.specs.Cuts.{holds_barrier}
use Rattle.kir.specs.Homes.{IsCellOf}
use Rattle.kir.specs.Inlined.{Text, DeclaredThen, Inlining, variable_of, expression_before, optional_before}
use Rattle.kir.specs.Inlined.{statement_before, statements_before, holds_in, holds_among, holds_in_optional, holds}
use Rattle.kir.specs.Inlined.{some_holds, Crosses}
use Rattle.kir_lower.specs.declared.places.Value.{Value}
use Rattle.kir_lower.specs.Made.{Made, Instance, next_cell, with_cell, argument_roots}
use Rattle.kir_lower.specs.Actions.{atoms_of, set_to, initial_lines, opened, outward, is_none, guarded_before, settled}
use Rattle.kir_lower.specs.Actions.{round_code, labels_code, all_labels_code, fallen_code}
use Rattle.kir_lower.specs.Code.{Calls, expression_code, operands_code, optional_code, Guarded, is_guarded, before_rest}
use Rattle.kir_uniform.proofs.Living.{true_or_false, or_either}
use Rattle.kir_uniform.proofs.Alike.{same_self, same_number}
use Rattle.kir_lower_shape.proofs.Quiet.{Quiet, or_false, quiet_less, quiet_none}
use Rattle.kir_lower_shape.proofs.Steps.{IsApart}
use Rattle.kir_lower_shape.proofs.Scoped.{argument_count}
use Rattle.kir_lower_shape.proofs.Anew.{expression_quiet}
use Rattle.kir_lower_shape.proofs.Cutless.{Cutless, cutless_then}
use Rattle.kir_lower_uniform.proofs.UnsetCode.{operand_count}
use Rattle.kir_lower_uniform.proofs.Ground.{Even, Grown, value_not_even, flag_not_even, back_value}
use Rattle.kir_lower_uniform.proofs.Fresh.{values_not_read, optional_in, operands_in}
use Rattle.kir_lower_uniform.proofs.Setting.{ScopeWithin}
use Rattle.kir_lower_uniform.proofs.FineRules.{In, Good, ReadsIn, in_before, fine_reads, fine_if, fine_loop}
use Rattle.kir_lower_uniform.proofs.FineRules.{fine_joined, Ok, ok_cut, ok_expressions, ok_optional, ok_statement}
use Rattle.kir_lower_uniform.proofs.FineRules.{held_statements}
use Rattle.kir_lower_uniform.proofs.FineCode.{nothing, FineLines, Around, around_good, around_less, Standing, in_joined}
use Rattle.kir_lower_uniform.proofs.FineCode.{X, in_quiet, in_atom, in_cell, in_two, in_none, reads_joined, held_by}
use Rattle.kir_lower_uniform.proofs.FineCode.{expression_fine, operands_fine}

module _ (program : Program) (kernel : Kernel) (at : Inlining) (fn : ℕ) (calls : Calls) (here : Instance)
    (set : Standing program kernel at fn calls here) (X0 : Variable → Type 0) where
  abbrev F : Function
  F = function_at program fn

  abbrev Size : ℕ
  Size = length (function_at program fn).variables

  abbrev Var : ℕ → Type 0
  Var = Even nothing kernel

  abbrev XS : Scope → Variable → Type 0
  XS scope v = X program kernel at fn calls here set X0 scope v

  abbrev L : Scope → (ℕ → Test) → Type 0
  L scope live = In program kernel (X program kernel at fn calls here set X0 scope) live

  abbrev Go : (ℕ → Test) → Lines → Type 0
  Go out lines = FineLines program kernel out lines

  abbrev W : Scope → Type 0
  W scope = ScopeWithin nothing kernel here Size scope

  abbrev A : Scope → List Variable → Test → Type 0
  A scope S b = Around program kernel (X program kernel at fn calls here set X0 scope) S b

  abbrev G : Scope → Test → Type 0
  G scope b = Good program kernel (X program kernel at fn calls here set X0 scope) b

  abbrev R : Scope → Lines → Type 0
  R scope lines = ReadsIn program kernel (X program kernel at fn calls here set X0 scope) lines

  -- ---- guards and loops

  held_one : (b : Test) (lines : Lines) → (b ≡ false → Cutless lines) → holds_barrier lines ≡ true → b ≡ true
  held_one b lines h e = elim (true_or_false b) [
    | inl t ↦ t
    | inr f ↦ absurd (let k = (h f).is in
        let z : true ≡ false = sym e ∙ k in cc)
  ]

  guarded_fine : (scope : Scope) (b : Test) (site exit : ℕ) (inside rest : Lines) (out : ℕ → Test) → (Var exit → ⊥) →
      G scope b → (b ≡ false → Cutless inside) → L scope (λ c. live_in c rest (out c)) →
      L scope (λ c. live_in c inside (live_in c rest (out c)))
      → Go (λ c. live_in c rest (out c)) inside → Go out rest →
      L scope (λ c. live_in c (guarded_before site exit inside rest) (out c))
      × Go out (guarded_before site exit inside rest)
  guarded_fine scope b site exit inside rest out none_ good held lr li fi fr = by (is_none inside)
    where
      by : (n : Test) → L scope (λ c. live_in c (if n then rest else IfThen site (CellAtom exit) NoLine inside rest)
          (out c)) × Go out (if n then rest else IfThen site (CellAtom exit) NoLine inside rest)
      by true = (lr, fr)
      by false =
          let re = in_cell program kernel at fn calls here set X0 scope exit none_ in (
            in_two program kernel at fn calls here set X0 scope (λ c. reads c (CellAtom exit))
                (λ c. live_in c rest (out c) || live_in c inside (live_in c rest (out c))) re
                (in_two program kernel at fn calls here set X0 scope (λ c. live_in c rest (out c))
                (λ c. live_in c inside (live_in c rest (out c))) lr li),
            fine_joined program kernel out rest fr (IfThen site (CellAtom exit) NoLine inside NoLine)
                (fine_if program kernel (XS scope) b site (CellAtom exit) NoLine inside (λ c. live_in c rest (out c))
                good (λ e. held_one b inside held e) re lr lr li (fine_reads program kernel (XS scope) b NoLine
                (λ c. live_in c rest (out c)) tt lr good) fi),
          )

  guarded_cutless : (site exit : ℕ) (inside : Lines) → Cutless inside → Cutless (guarded_before site exit inside NoLine)
  guarded_cutless site exit inside h = by (is_none inside)
    where
      by : (n : Test) → Cutless (if n then NoLine else IfThen site (CellAtom exit) NoLine inside NoLine)
      by true = record { is = refl }
      by false = record { is = or_false _ _ h.is refl }

  pub round_fine : (scope : Scope) (b : Test) (site : ℕ) (first : Test) (way : Option ℕ) (Y : ℕ) (lt : Lines)
      (answer : Value) (ls lb : Lines) (mb : Made) (out : ℕ → Test) → G scope b →
      ((s : ℕ) → way ≡ Some s → Var Y → ⊥) → L scope (λ c. reads c answer.atom)
      → Grown nothing kernel (round_code site first way Y lt answer ls lb mb).made →
      (b ≡ false → Cutless lt × Cutless ls × Cutless lb)
      → ((o : ℕ → Test) → L scope o → L scope (λ c. live_in c lt (o c)) × Go o lt) →
      ((o : ℕ → Test) → L scope o → L scope (λ c. live_in c ls (o c)) × Go o ls) →
      ((o : ℕ → Test) → L scope o → L scope (λ c. live_in c lb (o c)) × Go o lb)
      → L scope out → Go out (round_code site first way Y lt answer ls lb mb).lines
  round_fine scope b site first None Y lt answer ls lb mb out good y_not ra g held ft fs fb live =
      fine_loop program kernel (XS scope) b site first lt answer.atom (joined_to lb ls) out good
      (held_by program kernel at fn calls here set X0 b lt (joined_to lb ls) (λ f. let k = held f in
      (k.0, cutless_then lb ls k.2 k.1))) ra live ft
      (λ o l. let s = fs o l in let k = fb (λ c. live_in c ls (o c)) s.0 in
      (in_joined program kernel (XS scope) lb ls o k.0, fine_joined program kernel o ls s.1 lb k.1))
  round_fine scope b site first (Some way) Y lt answer ls lb mb out good y_not ra g held ft fs fb live =
      let to = next_cell mb in
      let m1 = with_cell mb OfValue answer.of in
      let n1 = next_cell m1 in
      let cset = settled way Y m1 in
      let g1 = back_value nothing kernel m1 Int g in
      let set_answer = set_to to answer.atom in
      let lines = joined_to lt set_answer in
      let branch = IfThen way (CellAtom Y) NoLine lines NoLine in
      let s1 = SetThen to (Copy (Const (pos 0) answer.of)) NoLine in
      let gl = guarded_before way Y ls NoLine in
      let tail = joined_to cset.lines gl in
      let yn = y_not way refl in
      let rY = in_cell program kernel at fn calls here set X0 scope Y yn in
      let rs : R scope set_answer = (ra, tt) in
      let r1 : R scope s1 = (in_none program kernel at fn calls here set X0 scope, tt) in
      let rc : R scope cset.lines = (
        in_two program kernel at fn calls here set X0 scope (λ c. reads c (CellAtom Y)) (λ c. false) rY
            (in_none program kernel at fn calls here set X0 scope),
        (
          in_cell program kernel at fn calls here set X0 scope n1 (value_not_even nothing kernel m1 Int g),
          (in_none program kernel at fn calls here set X0 scope, tt),
          tt,
          tt,
        ),
      ) in
      let cut_lines : b ≡ false → Cutless lines = λ f. cutless_then lt set_answer (held f).0 (record { is = refl }) in
      let held_t : b ≡ false → Cutless (joined_to s1 branch) = λ f. record
      { is = or_false _ _ (cut_lines f).is refl } in
      let held_b : b ≡ false → Cutless (joined_to lb tail) = λ f. cutless_then lb tail (held f).2
      (cutless_then cset.lines gl (record { is = refl }) (guarded_cutless way Y ls (held f).1)) in
      let tests : (o : ℕ → Test) → L scope o → L scope (λ c. live_in c (joined_to s1 branch) (o c))
      × Go o (joined_to s1 branch) = λ o l.
      let l0 = in_before program kernel (XS scope) set_answer o rs l in
      let k = ft (λ c. live_in c set_answer (o c)) l0 in
      let ll = in_joined program kernel (XS scope) lt set_answer o k.0 in
      let fl = fine_joined program kernel o set_answer
      (fine_reads program kernel (XS scope) b set_answer o rs l good) lt k.1 in
      let fb_ = fine_if program kernel (XS scope) b way (CellAtom Y) NoLine lines o good
      (λ e. held_one b lines cut_lines e) rY l l ll
      (fine_reads program kernel (XS scope) b NoLine o tt l good) fl in
      let lb_ = in_two program kernel at fn calls here set X0 scope (λ c. reads c (CellAtom Y))
      (λ c. o c || live_in c lines (o c)) rY (in_two program kernel at fn calls here set X0 scope o
      (λ c. live_in c lines (o c)) l ll) in (
        in_joined program kernel (XS scope) s1 branch o
            (in_before program kernel (XS scope) s1 (λ c. live_in c branch (o c)) r1 lb_),
        fine_joined program kernel o branch fb_ s1
            (fine_reads program kernel (XS scope) b s1 (λ c. live_in c branch (o c)) r1 lb_ good),
      ) in
      let bodies : (o : ℕ → Test) → L scope o → L scope (λ c. live_in c (joined_to lb tail) (o c))
      × Go o (joined_to lb tail) = λ o l.
      let s = fs o l in
      let kg = guarded_fine scope b way Y ls NoLine o yn good (λ f. (held f).1) l s.0 s.1
      (fine_reads program kernel (XS scope) b NoLine o tt l good) in
      let lt_ = in_before program kernel (XS scope) cset.lines (λ c. live_in c gl (o c)) rc kg.0 in
      let ft_ = fine_joined program kernel o gl kg.1 cset.lines (fine_reads program kernel (XS scope) b cset.lines
      (λ c. live_in c gl (o c)) rc kg.0 good) in
      let l2 = in_joined program kernel (XS scope) cset.lines gl o lt_ in
      let k = fb (λ c. live_in c tail (o c)) l2 in
      (in_joined program kernel (XS scope) lb tail o k.0, fine_joined program kernel o tail ft_ lb k.1) in
      fine_loop program kernel (XS scope) b site first (joined_to s1 branch) (CellAtom to) (joined_to lb tail) out
      good (held_by program kernel at fn calls here set X0 b (joined_to s1 branch) (joined_to lb tail)
      (λ f. (held_t f, held_b f)))
      (in_cell program kernel at fn calls here set X0 scope to (value_not_even nothing kernel mb answer.of g1)) live
      tests bodies

  abbrev cell_in : Atom → ℕ
  cell_in (Const value of) = 0
  cell_in (CellAtom c) = c

  read_not : (a : Atom) → (Var (cell_in a) → ⊥) → (c : ℕ) → Var c → reads c a ≡ true → ⊥
  read_not (Const value of) h c v e = let z : false ≡ true = e in cc
  read_not (CellAtom d) h c v e = h (subst Var (same_number c d e) v)

  -- ---- plain lines

  pub opened_reads : (scope : Scope) (way : Option ℕ) (exit : ℕ) (m : Made) → R scope (opened way exit m).lines
  opened_reads scope None exit m = tt
  opened_reads scope (Some site) exit m = (in_none program kernel at fn calls here set X0 scope, tt)

  pub outward_reads : (scope : Scope) (way : Option ℕ) (exit outer : ℕ) (m : Made) →
      ((s : ℕ) → way ≡ Some s → Var exit → ⊥) → Grown nothing kernel (outward way exit outer m).made →
      R scope (outward way exit outer m).lines
  outward_reads scope None exit outer m h g = tt
  outward_reads scope (Some site) exit outer m h g =
      let r = in_cell program kernel at fn calls here set X0 scope exit (h site refl) in (
        in_two program kernel at fn calls here set X0 scope (λ c. reads c (CellAtom exit)) (λ c. false) r
            (in_none program kernel at fn calls here set X0 scope),
        (
          in_cell program kernel at fn calls here set X0 scope (next_cell m) (value_not_even nothing kernel m Int g),
          tt,
          (r, tt),
          tt,
        ),
      )

  labels_reads : (scope : Scope) (site : ℕ) (value : Value) (chosen k : ℕ) (labels : List ℤ) (m : Made) →
      L scope (λ c. reads c value.atom) → Grown nothing kernel (labels_code site value chosen k labels m).made →
      R scope (labels_code site value chosen k labels m).lines × Grown nothing kernel m
  labels_reads scope site value chosen k [] m h g = (tt, g)
  labels_reads scope site value chosen k (label ∷ labels) m h g =
      let r = labels_reads scope site value chosen k labels (with_cell m OfValue Int) h g in (
        (
          in_two program kernel at fn calls here set X0 scope (λ c. reads c value.atom) (λ c. false) h
              (in_none program kernel at fn calls here set X0 scope),
          (
            in_cell program kernel at fn calls here set X0 scope (next_cell m)
                (value_not_even nothing kernel m Int r.1),
            (in_none program kernel at fn calls here set X0 scope, tt),
            tt,
            r.0,
          ),
        ),
        back_value nothing kernel m Int r.1,
      )

  pub all_labels_reads : (scope : Scope) (site : ℕ) (value : Value) (chosen k : ℕ) (arms : Arms) (m : Made) →
      L scope (λ c. reads c value.atom) → Grown nothing kernel (all_labels_code site value chosen k arms m).made →
      R scope (all_labels_code site value chosen k arms m).lines × Grown nothing kernel m
  all_labels_reads scope site value chosen k no_arm m h g = (tt, g)
  all_labels_reads scope site value chosen k (arm labels default body rest) m h g =
      let cl = labels_code site value chosen k labels m in
      let r = all_labels_reads scope site value chosen (k + 1) rest cl.made h g in
      let l = labels_reads scope site value chosen k labels m h r.1 in
      (reads_joined program kernel at fn calls here set X0 scope cl.lines _ l.0 r.0, l.1)

  labels_grown : (site : ℕ) (value : Value) (chosen k : ℕ) (labels : List ℤ) (m : Made) →
      Grown nothing kernel (labels_code site value chosen k labels m).made → Grown nothing kernel m
  labels_grown site value chosen k [] m g = g
  labels_grown site value chosen k (label ∷ labels) m g =
      back_value nothing kernel m Int (labels_grown site value chosen k labels (with_cell m OfValue Int) g)

  pub all_labels_grown : (site : ℕ) (value : Value) (chosen k : ℕ) (arms : Arms) (m : Made) →
      Grown nothing kernel (all_labels_code site value chosen k arms m).made → Grown nothing kernel m
  all_labels_grown site value chosen k no_arm m g = g
  all_labels_grown site value chosen k (arm labels default body rest) m g =
      labels_grown site value chosen k labels m (all_labels_grown site value chosen (k + 1) rest
      (labels_code site value chosen k labels m).made g)

  pub initial_reads : (scope : Scope) (site : ℕ) (element : IntType) (array k : ℕ) (values : List Value) →
      L scope (λ c. some_reads c (atoms_of values)) → R scope (initial_lines site element array k values)
  initial_reads scope site element array k [] h = tt
  initial_reads scope site element array k (v ∷ values) h = (
    (λ w c i e. h w c i (or_left (reads c v.atom) _ e)),
    initial_reads scope site element array (k + 1) values
        (λ w c i e. h w c i (or_right (reads c v.atom) _ e)),
  )

  pub fallen_reads : (scope : Scope) (way : Option ℕ) (exit : ℕ) (entered : Value) (m : Made) →
      ((s : ℕ) → way ≡ Some s → Var exit → ⊥) → L scope (λ c. reads c entered.atom) →
      Grown nothing kernel (fallen_code way exit entered m).made
      → R scope (fallen_code way exit entered m).lines
      × L scope (λ c. reads c (fallen_code way exit entered m).value.atom)
  fallen_reads scope None exit entered m h r g = (tt, r)
  fallen_reads scope (Some s) exit entered m h r g =
      let g1 = back_value nothing kernel (with_cell m OfValue Int) Int g in (
        (
          in_cell program kernel at fn calls here set X0 scope exit (h s refl),
          (
            in_two program kernel at fn calls here set X0 scope (λ c. reads c entered.atom)
                (λ c. reads c (CellAtom (next_cell m))) r (in_cell program kernel at fn calls here set X0 scope
                (next_cell m) (value_not_even nothing kernel m Int g1)),
            tt,
          ),
        ),
        in_cell program kernel at fn calls here set X0 scope (next_cell (with_cell m OfValue Int))
            (value_not_even nothing kernel (with_cell m OfValue Int) Int g),
      )

  pub fallen_not : (way : Option ℕ) (exit : ℕ) (entered : Value) (m : Made) → (Var (cell_in entered.atom) → ⊥) →
      Grown nothing kernel (fallen_code way exit entered m).made → (c : ℕ) → Var c →
      reads c (fallen_code way exit entered m).value.atom ≡ true → ⊥
  fallen_not None exit entered m h g c v e = read_not entered.atom h c v e
  fallen_not (Some s) exit entered m h g c v e =
      value_not_even nothing kernel (with_cell m OfValue Int) Int g (subst Var (same_number c _ e) v)

  -- what is live before a variable's cell is set
  pub in_declared : (x : ℕ) (a : Atom) (scope : Scope) (out : ℕ → Test) → x < Size → L scope (λ c. reads c a) →
      L (x ∷ scope) out → L scope (λ c. live_in c (set_to (here.base + x) a) (out c))
  in_declared x a scope out less ra live v c i l =
      elim (or_either (reads c a) _ l) [
        | inl r ↦ ra v c i r
        | inr r ↦
            let k = and_parts (not (nat_eq c (here.base + x))) (out c) r in
            elim (live v c i k.1) [
              | inl y ↦ elim y.1 [
                | inl e ↦ absurd (clash (set.one v c (here.base + x) i (subst (λ z. IsCellOf kernel z (here.base + x))
                    (sym (y.2 ∙ ap (λ z. variable_of at z) (sym e))) (set.own_cell x less))) k.0)
                | inr h ↦ inl (y.0, h, y.2)
              ]
              | inr o ↦ inr o
            ]
      ]
    where
      clash : c ≡ here.base + x → not (nat_eq c (here.base + x)) ≡ true → ⊥
      clash t n = let s : nat_eq c (here.base + x) ≡ true = subst (λ z. nat_eq c z ≡ true) t (same_self c) in
          let u : false ≡ true = sym (ap not s) ∙ n in cc

  -- more is in scope
  pub in_after : (scope : Scope) (s : Statement) (out : ℕ → Test) → L scope out → L (scope_after scope s) out
  in_after scope (Declare x value) out h =
      λ v c i l. elim (h v c i l) [ inl y ↦ inl (y.0, inr y.1, y.2) | inr o ↦ inr o ]
  in_after scope (Do e) out h = h
  in_after scope (Fill site array values) out h = h
  in_after scope (Block list) out h = h
  in_after scope (If site test yes_ no_) out h = h
  in_after scope (Loop site first test step body) out h = h
  in_after scope (Switch site value arms) out h = h
  in_after scope (Break site) out h = h
  in_after scope (Continue site) out h = h
  in_after scope (Return site value) out h = h
  in_after scope (Barrier site) out h = h

  -- the variables that can be named behind a statement of a list
  pub around_rest : (scope : Scope) (s : Statement) (rest : Statements) (S : List Variable) (t : Text) →
      Ok program kernel S (statement_before at s (statements_before at rest t)) →
      A scope S (holds at.inside s || some_holds at.inside rest) → A (scope_after scope s) S (some_holds at.inside rest)
  around_rest scope (Declare x value) rest S t ok h =
      let k = ok_optional program kernel at set.tail S value
      (DeclaredThen (variable_of at x) (statements_before at rest t)) ok in
      record {
        inside = λ v n. elim n [
          | inl y ↦ elim y.1 [
            | inl e ↦ subst (IsOneOf S) (sym (y.2 ∙ ap (λ z. variable_of at z) (sym e))) k.1
            | inr i ↦ h.inside v (inl (y.0, i, y.2))
          ]
          | inr o ↦ h.inside v (inr o)
        ];
        block = h.block;
        cross = λ e v n. elim n [
          | inl y ↦ elim y.1 [
            | inl q ↦ subst (Crosses program) (sym (y.2 ∙ ap (λ z. variable_of at z) (sym q)))
                (k.0 (held_statements at set.cut_keeps set.cut_there rest t e))
            | inr i ↦ h.cross (or_right (holds at.inside (Declare x value)) _ e) v (inl (y.0, i, y.2))
          ]
          | inr o ↦ h.cross (or_right (holds at.inside (Declare x value)) _ e) v (inr o)
        ];
      }
  around_rest scope (Do e) rest S t ok h =
      around_less program kernel (XS scope) S _ _ (λ z. or_right (holds at.inside (Do e)) _ z) h
  around_rest scope (Fill site array values) rest S t ok h =
      around_less program kernel (XS scope) S _ _ (λ z. or_right (holds at.inside (Fill site array values)) _ z) h
  around_rest scope (Block list) rest S t ok h =
      around_less program kernel (XS scope) S _ _ (λ z. or_right (holds at.inside (Block list)) _ z) h
  around_rest scope (If site test yes_ no_) rest S t ok h =
      around_less program kernel (XS scope) S _ _ (λ z. or_right (holds at.inside (If site test yes_ no_)) _ z) h
  around_rest scope (Loop site first test step body) rest S t ok h =
      around_less program kernel (XS scope) S _ _
      (λ z. or_right (holds at.inside (Loop site first test step body)) _ z) h
  around_rest scope (Switch site value arms) rest S t ok h =
      around_less program kernel (XS scope) S _ _ (λ z. or_right (holds at.inside (Switch site value arms)) _ z) h
  around_rest scope (Break site) rest S t ok h = around_less program kernel (XS scope) S _ _ (λ z. z) h
  around_rest scope (Continue site) rest S t ok h = around_less program kernel (XS scope) S _ _ (λ z. z) h
  around_rest scope (Return site value) rest S t ok h =
      around_less program kernel (XS scope) S _ _ (λ z. or_right (holds at.inside (Return site value)) _ z) h
  around_rest scope (Barrier site) rest S t ok h = around_less program kernel (XS scope) S _ _ (λ z. refl) h

  pub same_or : (b : Test) → (b || false) ≡ true → b ≡ true
  same_or true e = refl
  same_or false e = e

  -- the parts of a loop
  pub loop_parts : (site : ℕ) (first : Test) (test step : Option Expression) (body : Statement) (S : List Variable)
      (t : Text) → Ok program kernel S (statement_before at (Loop site first test step body) t) →
      ((u : Text) × Ok program kernel S (optional_before at.called test u))
      × ((u : Text) × Ok program kernel S (optional_before at.called step u))
      × ((u : Text) × Ok program kernel S (statement_before at body u))
  loop_parts site true test step body S t h =
      let b = holds at.inside (Loop site true test step body) in
      let h1 = ok_cut program kernel S b _ h in
      let h2 = ok_cut program kernel S b _ (ok_optional program kernel at set.tail S test _ h1) in
      let h3 = ok_cut program kernel S b _ (ok_optional program kernel at set.tail S step _ h2) in
      ((_, h1), (_, h2), (_, h3))
  loop_parts site false test step body S t h =
      let b = holds at.inside (Loop site false test step body) in
      let h1 = ok_cut program kernel S b _ h in
      let h2 = ok_cut program kernel S b _ (ok_statement program kernel at set.tail S body _ h1) in
      let h3 = ok_cut program kernel S b _ (ok_optional program kernel at set.tail S step _ h2) in
      ((_, h3), (_, h2), (_, h1))

  -- an expression that may be absent
  pub optional_fine : (e : Option Expression) (scope : Scope) (m : Made) (b : Test) (S : List Variable) (t : Text) →
      OptionalFits program F e → NamesInOptional scope e → W scope →
      Grown nothing kernel (optional_code calls here e m).made → (holds_in_optional at.inside e ≡ true → b ≡ true) →
      A scope S b
      → Ok program kernel S (optional_before at.called e t) → (o : ℕ → Test) → L scope o →
      L scope (λ c. live_in c (optional_code calls here e m).lines (o c))
      × Go o (optional_code calls here e m).lines
  optional_fine None scope m b S t h n w g le around ok o live =
      (live, fine_reads program kernel (XS scope) b NoLine o tt live (around_good program kernel (XS scope) S b around))
  optional_fine (Some e) scope m b S t h n w g le around ok o live = (
    in_quiet program kernel at fn calls here set X0 (expression_code calls here e m).lines scope o w
        (λ c v ap_. quiet_less c (expression_code calls here e m).lines _
        (expression_quiet program c calls (set.quiet c) F here e h.0 scope h.1 n ap_ m)) live,
    expression_fine program kernel at fn calls here set X0 e h.0 scope m o S t h.1 n w g
        (around_less program kernel (XS scope) S b (holds_in at.inside e) le around) ok live,
  )

  -- a call of a function that gives none
  pub do_fine : (e : Expression) (scope : Scope) (m : Made) (out : ℕ → Test) (S : List Variable) (t : Text) →
      StatementFits program F (Do e) → NamesIn scope e → W scope →
      Grown nothing kernel (expression_code calls here e m).made → A scope S (holds_in at.inside e)
      → Ok program kernel S (expression_before at.called e t) → L scope out →
      Go out (expression_code calls here e m).lines
  unfolding expression_code
  do_fine e scope m out S t (inl h) n w g around ok live =
      expression_fine program kernel at fn calls here set X0 e h.0 scope m out S t h.1 n w g around ok live
  do_fine (Apply action operands) scope m out S t (inr h) n w g around ok live = absurd h
  do_fine (Update site element root op of bk old index value) scope m out S t (inr h) n w g around ok live = absurd h
  do_fine (Choose site test yes_ no_) scope m out S t (inr h) n w g around ok live = absurd h
  do_fine (Call site g_ roots arguments) scope m out S t (inr h) n w g around ok live =
      let b = holds_among at.inside arguments || at.inside g_ in
      let ca = operands_code calls here arguments m in
      let cl = calls here site g_ (argument_roots here roots) ca.values ca.made in
      let ga = set.back here site g_ (argument_roots here roots) ca.values ca.made g in
      let all = operands_in nothing kernel calls set.up set.back here set.fresh arguments m ga in
      let count = operand_count program calls F here arguments h.1.0 h.1.1 m
      ∙ argument_count program F (parameter_kinds (function_at program g_)) roots h.1.0 h.1.2 in
      let live1 = in_quiet program kernel at fn calls here set X0 cl.lines scope out w
      (λ c e ap_. quiet_less c cl.lines _ (set.quiet c here site g_ (argument_roots here roots) ca.values ca.made
      h.0.within count (values_not_read nothing kernel (next_cell m) (next_cell ca.made) ca.values c
      all e))) live in
      let ok1 = ok_expressions program kernel at set.tail S arguments (at.called site g_ t) ok in
      fine_joined program kernel out cl.lines
      (set.call site g_ (argument_roots here roots) ca.values (next_cell m) ca.made out (XS scope) S t h.0.within
      count all g (around_less program kernel (XS scope) S b (at.inside g_)
      (λ e. or_right (holds_among at.inside arguments) _ e) around) ok1 live) ca.lines
      (operands_fine program kernel at fn calls here set X0 arguments h.1.0 scope m (λ c. live_in c cl.lines (out c))
      S (at.called site g_ t) h.1.1 n w ga
      (around_less program kernel (XS scope) S b (holds_among at.inside arguments)
      (λ e. or_left (holds_among at.inside arguments) _ e) around) ok live1)

  pub rest_grown : (exit : ℕ) (declared : Test) (way : Option ℕ) (lines : Lines) (g : Guarded) →
      Grown nothing kernel (before_rest exit declared way lines g).made → Grown nothing kernel g.made
  rest_grown exit true way lines g h = h
  rest_grown exit false None lines g h = h
  rest_grown exit false (Some site) lines g h = h

  pub not_cell : (c d : ℕ) → (Var d → ⊥) → Var c → nat_eq c d ≡ false
  not_cell c d h v = elim (true_or_false (nat_eq c d)) [
    | inl t ↦ absurd (h (subst Var (same_number c d t) v))
    | inr t ↦ t
  ]

  pub opened_not : (way : Option ℕ) (exit : ℕ) (m : Made) → Grown nothing kernel (opened way exit m).made → (k : ℕ) →
      way ≡ Some k → Var (opened way exit m).exit → ⊥
  opened_not None exit m g k e = absurd (none-some k e)
  opened_not (Some s) exit m g k e = flag_not_even nothing kernel m Int g

  pub optional_quiet : (c : ℕ) (e : Option Expression) (scope : Scope) → OptionalFits program F e →
      NamesInOptional scope e → IsApart c here scope → (m : Made) →
      Quiet c (optional_code calls here e m).lines (reads c (optional_code calls here e m).value.atom)
  optional_quiet c None scope h n a m = quiet_none c _ refl
  optional_quiet c (Some e) scope h n a m = expression_quiet program c calls (set.quiet c) F here e h.0 scope h.1 n a m

  pub optional_atom : (e : Option Expression) (scope : Scope) (m : Made) →
      Grown nothing kernel (optional_code calls here e m).made →
      L scope (λ c. reads c (optional_code calls here e m).value.atom)
  optional_atom e scope m g = in_atom program kernel at fn calls here set X0 scope (next_cell m)
      (next_cell (optional_code calls here e m).made) (optional_code calls here e m).value.atom
      (optional_in nothing kernel calls set.up set.back here set.fresh e m g)

  declared_within : (scope : Scope) (x : ℕ) → x < Size → W scope → W (x ∷ scope)
  declared_within scope x less w y (inl e) = subst (λ z. z < Size) e less
  declared_within scope x less w y (inr i) = w y i

  pub scope_within : (scope : Scope) (s : Statement) → StatementFits program F s → W scope → W (scope_after scope s)
  scope_within scope (Declare x None) h w = declared_within scope x (slice_get_within F.variables x h.1.0 h.1.1) w
  scope_within scope (Declare x (Some v)) h w = declared_within scope x (slice_get_within F.variables x h.1.0 h.1.1) w
  scope_within scope (Do e) h w = w
  scope_within scope (Fill site array values) h w = w
  scope_within scope (Block list) h w = w
  scope_within scope (If site test yes_ no_) h w = w
  scope_within scope (Loop site first test step body) h w = w
  scope_within scope (Switch site value arms) h w = w
  scope_within scope (Break site) h w = w
  scope_within scope (Continue site) h w = w
  scope_within scope (Return site value) h w = w
  scope_within scope (Barrier site) h w = w

  -- a statement before others
  pub before_fine : (guarded declared : Test) (way : Option ℕ) (exit : ℕ) (scope : Scope) (lines : Lines) (g : Guarded)
      (out : ℕ → Test) (b : Test) → ((o : ℕ → Test) → L scope o → Go o lines) →
      Go (λ c. live_in c g.rest (out c)) g.inside → Go out g.rest
      → L scope (λ c. live_in c g.inside (live_in c g.rest (out c))) → L scope out →
      (is_guarded declared way guarded ≡ true → L scope (λ c. live_in c g.rest (out c))) →
      ((k : ℕ) → way ≡ Some k → L scope (λ c. live_in c (guarded_before k exit g.inside g.rest) (out c)))
      → ((k : ℕ) → way ≡ Some k → Var exit → ⊥) → G scope b → (b ≡ false → Cutless g.inside)
      → Go (λ c. live_in c (before_rest exit declared way lines g).rest (out c))
      (before_rest exit declared way lines g).inside × Go out (before_rest exit declared way lines g).rest
  before_fine guarded true way exit scope lines g out b fs r1 r2 l_in live l_rest l_guard no_exit good held = (
    fine_joined program kernel out (joined_to g.inside g.rest) (fine_joined program kernel out g.rest r2 g.inside r1)
        lines (fs (λ c. live_in c (joined_to g.inside g.rest) (out c))
        (in_joined program kernel (XS scope) g.inside g.rest out l_in)),
    fine_reads program kernel (XS scope) b NoLine out tt live good,
  )
  before_fine guarded false None exit scope lines g out b fs r1 r2 l_in live l_rest l_guard no_exit good held = (
    fine_joined program kernel (λ c. live_in c g.rest (out c)) g.inside r1 lines
        (fs (λ c. live_in c g.inside (live_in c g.rest (out c))) l_in),
    r2,
  )
  before_fine guarded false (Some k) exit scope lines g out b fs r1 r2 l_in live l_rest l_guard no_exit good held = (
    fs (λ c. live_in c (guarded_before k exit g.inside g.rest) (out c)) (l_guard k refl),
    (guarded_fine scope b k exit g.inside g.rest out (no_exit k refl) good held (l_rest refl) l_in r1 r2).1,
  )
