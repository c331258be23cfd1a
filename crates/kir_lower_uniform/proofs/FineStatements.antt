-- The code of statements is fine.
use Rattle.std.proofs.Common.{◌≡◌, ℕ, ◌+◌, pos, length, List, ◌∷◌, ◌++◌, Some, None, refl, ◌∙◌, inl, inr}
use Rattle.std.proofs.Common.{Bool as Test, true, false}
use Rattle.std.specs.Prelude.{◌&&◌, ◌||◌}
use Rattle.std.proofs.lemmas.Bool.{or_left, or_right}
use Rattle.std.proofs.lemmas.Option.{slice_get_within}
use Rattle.wg_num.specs.declared.types.IntType.TheVariants.{Int}
use Rattle.cl_model.specs.Tree.{Statement, Do, Declare, Fill, Block, If, Loop, Switch, Break, Continue, Return, Barrier}
use Rattle.cl_model.specs.Tree.{Statements, empty, also, Arms, no_arm, arm, Program, Function}
use Rattle.cl_model.specs.Calls.{function_at}
use Rattle.cl_model.specs.Valid.{Scope, StatementFits, AllFit, ArmsFit, IsScopedList, AreScopedArms, scope_after}
use Rattle.cl_model.specs.Valid.{promoted}
use Rattle.kir.specs.declared.line.Atom.{Atom}
use Rattle.kir.specs.declared.line.Atom.TheVariants.{Cell as CellAtom}
use Rattle.kir.specs.Tree.{Variable, Lines, NoLine, ClearThen, IfThen, joined_to, OfValue, Kernel}
use Rattle.kir.specs.Live.{reads, live_in}
use Rattle.kir.specs.Inlined.{Text, NoText, DeclaredThen, Inlining, variable_of, statement_before, statements_before}
use Rattle.kir.specs.Inlined.{arms_before, holds_in, holds_among, holds_in_optional, holds, some_holds, arms_hold}
use Rattle.kir.specs.Inlined.{declared_in}
use Rattle.kir_lower.specs.Made.{Made, Instance, next_cell, with_cell, int, constant, type_at, element_at}
use Rattle.kir_lower.specs.Ways.{way_out, way_out_of_all, way_out_of_arms, declares}
use Rattle.kir_lower.specs.Actions.{set_to, initial_lines, opened, outward, guarded_before, round_code, selected}
use Rattle.kir_lower.specs.Actions.{fallen_code}
use Rattle.kir_lower.specs.Code.{Calls, expression_code, operands_code, optional_code, is_guarded, set_exit, entry_code}
use Rattle.kir_lower.specs.Code.{statement_code, list_code, arms_code}
use Rattle.kir_uniform.proofs.Living.{true_or_false}
use Rattle.diverge_sound.proofs.Keeps.{Sound, sound_list, body_sound, branch_scoped}
use Rattle.kir_lower_shape.proofs.Quiet.{Quiet, or_parts, quiet_less, live_joined}
use Rattle.diverge_sound.proofs.Parts.{in_right}
use Rattle.kir_lower_shape.proofs.Steps.{round_quiet, IsApart, IsFree, ListQuiet, guarded_quiet, list_joined}
use Rattle.kir_lower_shape.proofs.Scoped.{as_first, all_have, return_type}
use Rattle.kir_lower_shape.proofs.Anew.{statement_quiet, list_quiet, arms_quiet}
use Rattle.kir_lower_shape.proofs.Cutless.{optional_cutless, statement_cutless, list_cutless, list_joined_cutless}
use Rattle.kir_lower_uniform.proofs.Ground.{Even, Grown, value_not_even, back_value, opened_back, outward_back}
use Rattle.kir_lower_uniform.proofs.Ground.{round_back, selected_back, fallen_back, optional_back, statement_back}
use Rattle.kir_lower_uniform.proofs.Ground.{list_back, arms_back}
use Rattle.kir_lower_uniform.proofs.Fresh.{expression_in, operands_in}
use Rattle.kir_lower_uniform.proofs.Setting.{ScopeWithin}
use Rattle.kir_lower_uniform.proofs.Parts.{inner_true, list_parts, declared_declares}
use Rattle.kir_lower_uniform.proofs.Scopes.{declares_none, way_first, way_second, more_ways, more_ways_arms}
use Rattle.kir_lower_uniform.proofs.FineRules.{In, ReadsIn, in_before, fine_reads, fine_if, fine_joined, Ok, ok_cut}
use Rattle.kir_lower_uniform.proofs.FineRules.{ok_expression, ok_statement, ok_statements}
use Rattle.kir_lower_uniform.proofs.FineCode.{nothing, FineLines, Around, around_good, around_less, Standing, in_joined}
use Rattle.kir_lower_uniform.proofs.FineCode.{X, in_quiet, in_atom, in_values, in_cell, in_two, in_none, held_by}
use Rattle.kir_lower_uniform.proofs.FineCode.{expression_fine, operands_fine}
use Rattle.kir_lower_uniform.proofs.FineSteps.{round_fine, opened_reads, outward_reads, all_labels_reads}
use Rattle.kir_lower_uniform.proofs.FineSteps.{all_labels_grown, initial_reads, fallen_reads, fallen_not, in_declared}
use Rattle.kir_lower_uniform.proofs.FineSteps.{in_after, around_rest, same_or, loop_parts, optional_fine, do_fine}
use Rattle.kir_lower_uniform.proofs.FineSteps.{rest_grown, not_cell, opened_not, optional_quiet, optional_atom}
use Rattle.kir_lower_uniform.proofs.FineSteps.{scope_within, before_fine}

module _ (program : Program) (kernel : Kernel) (at : Inlining) (fn : ℕ) (calls : Calls) (here : Instance)
    (set : Standing program kernel at fn calls here) (X0 : Variable → Type 0) where
  abbrev F : Function
  F = function_at program fn

  abbrev Size : ℕ
  Size = length (function_at program fn).variables

  abbrev Var : ℕ → Type 0
  Var = Even nothing kernel

  abbrev XS : Scope → Variable → Type 0
  XS scope v = X program kernel at fn calls here set X0 scope v

  abbrev L : Scope → (ℕ → Test) → Type 0
  L scope live = In program kernel (X program kernel at fn calls here set X0 scope) live

  abbrev Go : (ℕ → Test) → Lines → Type 0
  Go out lines = FineLines program kernel out lines

  abbrev W : Scope → Type 0
  W scope = ScopeWithin nothing kernel here Size scope

  abbrev A : Scope → List Variable → Test → Type 0
  A scope S b = Around program kernel (X program kernel at fn calls here set X0 scope) S b

  abbrev R : Scope → Lines → Type 0
  R scope lines = ReadsIn program kernel (X program kernel at fn calls here set X0 scope) lines

  mutual
    unfolding statement_code

    pub statement_fine : (exit : ℕ) (s : Statement) (scope : Scope) (m : Made) (out : ℕ →
        Test) (S : List Variable) (t : Text) → StatementFits program F s → Sound scope s → W scope →
        Grown nothing kernel (statement_code calls here exit s m).made →
        ((k : ℕ) → way_out true true s ≡ Some k → Var exit → ⊥)
        → A scope S (holds at.inside s) → Ok program kernel S (statement_before at s t) → L (scope_after scope s) out →
        Go out (statement_code calls here exit s m).lines
    statement_fine exit (Do e) scope m out S t h n w g no_exit around ok live =
        do_fine program kernel at fn calls here set X0 e scope m out S t h n w g around ok live
    statement_fine exit (Declare x None) scope m out S t h n w g no_exit around ok live =
        let k = slice_get_within F.variables x h.1.0 h.1.1 in
        let l = in_declared program kernel at fn calls here set X0 x (constant (pos 0) (type_at here x)).atom scope out
        k (in_none program kernel at fn calls here set X0 scope) live in (
          (λ v u c d i j a b. (around_good program kernel (XS scope) S false around).meet v u (l v c i a) (l u d j b)),
          (λ v u c d i j a b. (around_good program kernel (XS (x ∷ scope)) S false
              (around_rest program kernel at fn calls here set X0 scope (Declare x None) empty S t ok around)).meet v u
              (live v c i a) (live u d j b)),
        )
    statement_fine exit (Declare x (Some e)) scope m out S t h n w g no_exit around ok live =
        let ce = expression_code calls here e m in
        let k = slice_get_within F.variables x h.1.0 h.1.1 in
        let b = holds_in at.inside e in
        let l = in_declared program kernel at fn calls here set X0 x ce.value.atom scope out k
        (in_atom program kernel at fn calls here set X0 scope
        (next_cell m) (next_cell ce.made) ce.value.atom (expression_in nothing kernel calls set.up set.back here
        set.fresh e m g)) live in
        let behind_ = around_rest program kernel at fn calls here set X0 scope (Declare x (Some e)) empty S t ok
        (around_less program kernel (XS scope) S b (b || false) (λ z. same_or program kernel at fn calls here set X0
        b z) around) in
        fine_joined program kernel out (set_to (here.base + x) ce.value.atom) (
          (λ v u c d i j a y. (around_good program kernel (XS scope) S b around).meet v u (l v c i a) (l u d j y)),
          (λ v u c d i j a y. (around_good program kernel (XS (x ∷ scope)) S false behind_).meet v u
              (live v c i a) (live u d j y)),
        ) ce.lines
        (expression_fine program kernel at fn calls here set X0 e h.0 scope m
        (λ c. live_in c (set_to (here.base + x) ce.value.atom) (out c)) S (DeclaredThen (variable_of at x) t) h.2
        n.1 w g around ok l)
    statement_fine exit (Fill site array values) scope m out S t h n w g no_exit around ok live =
        let b = holds_among at.inside values in
        let cv = operands_code calls here values m in
        let k = all_have program F values _ h.3 in
        let lines = ClearThen (here.arrays + array) (initial_lines site (element_at here array) (here.arrays + array) 0
        cv.values) in
        let r : R scope lines = initial_reads program kernel at fn calls here set X0 scope site (element_at here array)
        (here.arrays + array) 0 cv.values
        (in_values program kernel at fn calls here set X0 scope (next_cell m) (next_cell cv.made) cv.values
        (operands_in nothing kernel calls set.up set.back here set.fresh values m g)) in
        fine_joined program kernel out lines (fine_reads program kernel (XS scope) b lines out r live
        (around_good program kernel (XS scope) S b around)) cv.lines
        (operands_fine program kernel at fn calls here set X0 values k.0 scope m (λ c. live_in c lines (out c)) S t k.1
        n w g around ok (in_before program kernel (XS scope) lines out r live))
    statement_fine exit (Block list) scope m out S t h n w g no_exit around ok live =
        let cl = list_code calls here exit false list m in
        let own = declared_in (statements_before at list NoText) in
        let r = list_fine exit false list scope m out (own ++ S) NoText h n w g no_exit
        (record {
          inside = λ v x. in_right own S v (around.inside v x);
          block = ok.0;
          cross = around.cross;
        }) ok.1 live in
        fine_joined program kernel out cl.rest r.1 cl.inside r.0
    statement_fine exit (If site test yes_ no_) scope m out S t h n w g no_exit around ok live =
        let b = holds_in at.inside test || (some_holds at.inside yes_ || some_holds at.inside no_) in
        let ct = expression_code calls here test m in
        let cy = list_code calls here exit false yes_ ct.made in
        let cn = list_code calls here exit false no_ cy.made in
        let ly = joined_to cy.inside cy.rest in
        let ln = joined_to cn.inside cn.rest in
        let branch = IfThen site ct.value.atom ly ln NoLine in
        let gy = list_back nothing kernel calls set.back here exit false no_ cy.made g in
        let gt = list_back nothing kernel calls set.back here exit false yes_ ct.made gy in
        let sy = branch_scoped scope yes_ n.1 in
        let sn = branch_scoped scope no_ n.2 in
        let h1 = ok_cut program kernel S b _ ok in
        let h2 = ok_cut program kernel S b _ (ok_expression program kernel at set.tail S test _ h1) in
        let h3 = ok_cut program kernel S b _ (ok_statements program kernel at set.tail S yes_ _ h2) in
        let wy = way_out_of_all true true yes_ in
        let wn = way_out_of_all true true no_ in
        let no_y : (k : ℕ) → wy ≡ Some k → Var exit → ⊥ = λ k e. let z = way_first wy wn k e in no_exit z.0 z.1 in
        let no_n : (k : ℕ) → wn ≡ Some k → Var exit → ⊥ = λ k e. let z = way_second wy wn k e in no_exit z.0 z.1 in
        let around_y = around_less program kernel (XS scope) S b (some_holds at.inside yes_)
        (λ z. or_right (holds_in at.inside test) _ (or_left (some_holds at.inside yes_) _ z)) around in
        let around_n = around_less program kernel (XS scope) S b (some_holds at.inside no_)
        (λ z. or_right (holds_in at.inside test) _ (or_right (some_holds at.inside yes_) _ z)) around in
        let ry = list_fine exit false yes_ scope ct.made out S _ h.1 sy w gy no_y around_y h2 live in
        let rn = list_fine exit false no_ scope cy.made out S _ h.2 sn w g no_n around_n h3 live in
        let fy = fine_joined program kernel out cy.rest ry.1 cy.inside ry.0 in
        let fn_ = fine_joined program kernel out cn.rest rn.1 cn.inside rn.0 in
        let live_y = in_quiet program kernel at fn calls here set X0 ly scope out w
        (λ c v ap_. list_joined c false cy (list_quiet program c calls (set.quiet c) F here exit false yes_ scope
        h.1 sy ap_ (λ k e. not_cell program kernel at fn calls here set X0 c exit (no_y k e) v) ct.made)) live in
        let live_n = in_quiet program kernel at fn calls here set X0 ln scope out w
        (λ c v ap_. list_joined c false cn (list_quiet program c calls (set.quiet c) F here exit false no_ scope
        h.2 sn ap_ (λ k e. not_cell program kernel at fn calls here set X0 c exit (no_n k e) v) cy.made)) live in
        let rt = in_atom program kernel at fn calls here set X0 scope (next_cell m) (next_cell ct.made) ct.value.atom
        (expression_in nothing kernel calls set.up set.back here set.fresh test m gt) in
        let held = held_by program kernel at fn calls here set X0 b ly ln
        (λ f. let p = or_parts (holds_in at.inside test) _ f in
        let q = or_parts (some_holds at.inside yes_) (some_holds at.inside no_) p.1 in (
          list_joined_cutless cy (list_cutless calls at.inside set.cutless here exit false yes_ q.0 ct.made),
          list_joined_cutless cn (list_cutless calls at.inside set.cutless here exit false no_ q.1 cy.made),
        )) in
        let fb = fine_if program kernel (XS scope) b site ct.value.atom ly ln out
        (around_good program kernel (XS scope) S b around) held rt live live_y live_n fy fn_ in
        let lb = in_two program kernel at fn calls here set X0 scope (λ c. reads c ct.value.atom)
        (λ c. live_in c ly (out c) || live_in c ln (out c)) rt (in_two program kernel at fn calls here set X0
        scope (λ c. live_in c ly (out c)) (λ c. live_in c ln (out c)) live_y live_n) in
        fine_joined program kernel out branch fb ct.lines
        (expression_fine program kernel at fn calls here set X0 test h.0.0 scope m (λ c. live_in c branch (out c)) S _
        h.0.1 n.0 w gt (around_less program kernel (XS scope) S b (holds_in at.inside test)
        (λ z. or_left (holds_in at.inside test) _ z) around) h1 lb)
    statement_fine exit (Loop site first test step body) scope m out S t h n w g no_exit around ok live =
        let b = holds_in_optional at.inside test || (holds_in_optional at.inside step || holds at.inside body) in
        let way = way_out true true body in
        let co = opened way exit m in
        let ct = optional_code calls here test co.made in
        let cs = optional_code calls here step ct.made in
        let cb = statement_code calls here co.exit body cs.made in
        let cr = round_code site first way co.exit ct.lines ct.value cs.lines cb.lines cb.made in
        let cw = outward (way_out false false body) co.exit exit cr.made in
        let gr = outward_back nothing kernel (way_out false false body) co.exit exit cr.made g in
        let gb = round_back nothing kernel site first way co.exit ct.lines ct.value cs.lines cb.lines cb.made gr in
        let gs = statement_back nothing kernel calls set.back here co.exit body cs.made gb in
        let gt = optional_back nothing kernel calls set.back here step ct.made gs in
        let go_ = optional_back nothing kernel calls set.back here test co.made gt in
        let y_not = opened_not program kernel at fn calls here set X0 way exit m go_ in
        let good = around_good program kernel (XS scope) S b around in
        let parts = loop_parts program kernel at fn calls here set X0 site first test step body S t ok in
        let rw = outward_reads program kernel at fn calls here set X0 scope (way_out false false body) co.exit exit
        cr.made (λ k e. let z = more_ways body k e in y_not z.0 z.1) g in
        let live_w = in_before program kernel (XS scope) cw.lines out rw live in
        let fine_w = fine_reads program kernel (XS scope) b cw.lines out rw live good in
        let sb = body_sound scope body n.2 in
        let free : (c : ℕ) → Var c → IsFree c co.exit way = λ c v k e. not_cell program kernel at fn calls here set X0 c
        co.exit (y_not k e) v in
        let qb : (c : ℕ) → Var c → IsApart c here scope → Quiet c cb.lines false =
        λ c v ap_. quiet_less c cb.lines _ (statement_quiet program c calls (set.quiet c) F here co.exit body
        scope h.2 (as_first scope body n.2) ap_ (free c v) cs.made) in
        let around_b = around_less program kernel (XS scope) S b (holds at.inside body)
        (λ z. or_right (holds_in_optional at.inside test) _
        (or_right (holds_in_optional at.inside step) _ z)) around in
        let fine_r = round_fine program kernel at fn calls here set X0 scope b site first way co.exit ct.lines ct.value
        cs.lines cb.lines cb.made (λ c. live_in c cw.lines (out c)) good y_not
        (optional_atom program kernel at fn calls here set X0 test scope co.made gt) gr
        (λ f. let p = or_parts (holds_in_optional at.inside test) _ f in
        let q = or_parts (holds_in_optional at.inside step) (holds at.inside body) p.1 in (
          optional_cutless calls at.inside set.cutless here test p.0 co.made,
          optional_cutless calls at.inside set.cutless here step q.0 ct.made,
          statement_cutless calls at.inside set.cutless here co.exit body q.1 cs.made,
        ))
        (λ o l. optional_fine program kernel at fn calls here set X0 test scope co.made b S parts.0.0 h.0 n.0 w gt
        (λ z. or_left (holds_in_optional at.inside test) _ z) around parts.0.1 o l)
        (λ o l. optional_fine program kernel at fn calls here set X0 step scope ct.made b S parts.1.0 h.1 n.1 w gs
        (λ z. or_right (holds_in_optional at.inside test) _ (or_left (holds_in_optional at.inside step) _ z)) around
        parts.1.1 o l)
        (λ o l. (
          in_quiet program kernel at fn calls here set X0 cb.lines scope o w qb l,
          statement_fine co.exit body
              scope cs.made o S parts.2.0 h.2 sb w gb y_not around_b parts.2.1
              (in_after program kernel at fn calls here set X0 scope body o l),
        ))
        live_w in
        let live_r = in_quiet program kernel at fn calls here set X0 cr.lines scope (λ c. live_in c cw.lines (out c)) w
        (λ c v ap_. round_quiet c site first way co.exit ct.lines ct.value cs.lines cb.lines cb.made (free c v)
        (optional_quiet program kernel at fn calls here set X0 c test scope h.0 n.0 ap_ co.made)
        (quiet_less c cs.lines _ (optional_quiet program kernel at fn calls here set X0 c step scope h.1 n.1 ap_
        ct.made)) (qb c v ap_)) live_w in
        let rest = joined_to cr.lines cw.lines in
        let fine_rest = fine_joined program kernel out cw.lines fine_w cr.lines fine_r in
        fine_joined program kernel out rest fine_rest co.lines (fine_reads program kernel (XS scope) b co.lines
        (λ c. live_in c rest (out c)) (opened_reads program kernel at fn calls here set X0 scope way exit m)
        (in_joined program kernel (XS scope) cr.lines cw.lines out live_r) good)
    statement_fine exit (Switch site value arms) scope m out S t h n w g no_exit around ok live =
        let b = holds_in at.inside value || arms_hold at.inside arms in
        let way = way_out_of_arms true true arms in
        let cv = expression_code calls here value m in
        let co = opened way exit cv.made in
        let cs = selected site cv.value arms co.made in
        let ca = arms_code calls here co.exit site cs.value.atom (int (pos 0)) 0 arms cs.made in
        let cw = outward (way_out_of_arms false true arms) co.exit exit ca.made in
        let ga = outward_back nothing kernel (way_out_of_arms false true arms) co.exit exit ca.made g in
        let gs = arms_back nothing kernel calls set.back here co.exit site cs.value.atom
        (int (pos 0)) 0 arms cs.made ga in
        let go_ = selected_back nothing kernel site cv.value arms co.made gs in
        let gv = opened_back nothing kernel way exit cv.made go_ in
        let y_not = opened_not program kernel at fn calls here set X0 way exit cv.made go_ in
        let good = around_good program kernel (XS scope) S b around in
        let wide = promoted cv.value.of in
        let k = next_cell co.made in
        let m1 = with_cell co.made OfValue wide in
        let ch = next_cell m1 in
        let m2 = with_cell m1 OfValue Int in
        let g2 = all_labels_grown program kernel at fn calls here set X0 site (record { atom = CellAtom k; of = wide })
        ch 0 arms m2 gs in
        let ch_not = value_not_even nothing kernel m1 Int g2 in
        let k_not = value_not_even nothing kernel co.made wide (back_value nothing kernel m1 Int g2) in
        let labels = all_labels_reads program kernel at fn calls here set X0 scope site
        (record { atom = CellAtom k; of = wide }) ch 0 arms m2 (in_cell program kernel at fn calls here set X0 scope
        k k_not) gs in
        let ra = in_atom program kernel at fn calls here set X0 scope (next_cell m) (next_cell cv.made) cv.value.atom
        (expression_in nothing kernel calls set.up set.back here set.fresh value m gv) in
        let rs : R scope cs.lines = (ra, (in_none program kernel at fn calls here set X0 scope, labels.0)) in
        let h1 = ok_cut program kernel S b _ ok in
        let h2 = ok_cut program kernel S b _ (ok_expression program kernel at set.tail S value _ h1) in
        let rw = outward_reads program kernel at fn calls here set X0 scope (way_out_of_arms false true arms) co.exit
        exit ca.made (λ j e. let z = more_ways_arms arms j e in y_not z.0 z.1) g in
        let l4 = in_before program kernel (XS scope) cw.lines out rw live in
        let f4 = fine_reads program kernel (XS scope) b cw.lines out rw live good in
        let l3 = in_quiet program kernel at fn calls here set X0 ca.lines scope (λ c. live_in c cw.lines (out c)) w
        (λ c v ap_. arms_quiet program c calls (set.quiet c) F here co.exit site cs.value.atom (int (pos 0)) 0 arms
        scope h.3 n.1 ap_ (λ j e. not_cell program kernel at fn calls here set X0 c co.exit (y_not j e) v)
        (not_cell program kernel at fn calls here set X0 c ch ch_not v) refl cs.made) l4 in
        let f3 = fine_joined program kernel out cw.lines f4 ca.lines
        (arms_fine co.exit site ch (int (pos 0)) 0 arms scope cs.made (λ c. live_in c cw.lines (out c)) S _ h.3 n.1 w ga
        y_not ch_not (in_none program kernel at fn calls here set X0 scope)
        (around_less program kernel (XS scope) S b (arms_hold at.inside arms)
        (λ z. or_right (holds_in at.inside value) _ z) around) h2 l4) in
        let t3 = joined_to ca.lines cw.lines in
        let l3' = in_joined program kernel (XS scope) ca.lines cw.lines out l3 in
        let t2 = joined_to cs.lines t3 in
        let l2 = in_joined program kernel (XS scope) cs.lines t3 out (in_before program kernel (XS scope) cs.lines
        (λ c. live_in c t3 (out c)) rs l3') in
        let f2 = fine_joined program kernel out t3 f3 cs.lines (fine_reads program kernel (XS scope) b cs.lines
        (λ c. live_in c t3 (out c)) rs l3' good) in
        let t1 = joined_to co.lines t2 in
        let ro = opened_reads program kernel at fn calls here set X0 scope way exit cv.made in
        let l1 = in_joined program kernel (XS scope) co.lines t2 out (in_before program kernel (XS scope) co.lines
        (λ c. live_in c t2 (out c)) ro l2) in
        let f1 = fine_joined program kernel out t2 f2 co.lines (fine_reads program kernel (XS scope) b co.lines
        (λ c. live_in c t2 (out c)) ro l2 good) in
        fine_joined program kernel out t1 f1 cv.lines
        (expression_fine program kernel at fn calls here set X0 value h.0.0 scope m (λ c. live_in c t1 (out c)) S _
        h.0.1 n.0 w gv (around_less program kernel (XS scope) S b (holds_in at.inside value)
        (λ z. or_left (holds_in at.inside value) _ z) around) h1 l1)
    statement_fine exit (Break site) scope m out S t h n w g no_exit around ok live =
        fine_reads program kernel (XS scope) false (set_exit exit 2) out (
          in_none program kernel at fn calls here set X0 scope,
          tt,
        ) live (around_good program kernel (XS scope) S false around)
    statement_fine exit (Continue site) scope m out S t h n w g no_exit around ok live =
        fine_reads program kernel (XS scope) false (set_exit exit 1) out (
          in_none program kernel at fn calls here set X0 scope,
          tt,
        ) live (around_good program kernel (XS scope) S false around)
    statement_fine exit (Return site None) scope m out S t h n w g no_exit around ok live =
        fine_reads program kernel (XS scope) false (set_exit exit 3) out (
          in_none program kernel at fn calls here set X0 scope,
          tt,
        ) live (around_good program kernel (XS scope) S false around)
    statement_fine exit (Return site (Some e)) scope m out S t h n w g no_exit around ok live =
        let b = holds_in at.inside e in
        let ce = expression_code calls here e m in
        let kt = return_type program F F.result e h in
        let lines = joined_to (set_to here.answer ce.value.atom) (set_exit exit 3) in
        let r : R scope lines = (
          in_atom program kernel at fn calls here set X0 scope (next_cell m)
              (next_cell ce.made) ce.value.atom (expression_in nothing kernel calls set.up set.back here set.fresh e m
              g),
          (in_none program kernel at fn calls here set X0 scope, tt),
        ) in
        fine_joined program kernel out lines (fine_reads program kernel (XS scope) b lines out r live
        (around_good program kernel (XS scope) S b around)) ce.lines
        (expression_fine program kernel at fn calls here set X0 e kt.0 scope m (λ c. live_in c lines (out c)) S t kt.1 n
        w g around ok (in_before program kernel (XS scope) lines out r live))
    statement_fine exit (Barrier site) scope m out S t h n w g no_exit around ok live =
        let good = around_good program kernel (XS scope) S true around in (
          (λ v u c d i j a b. good.meet v u (live v c i a) (live u d j b)),
          (λ v c i a. good.cross refl v (live v c i a)),
          (λ v u c d i j a b. good.meet v u (live v c i a) (live u d j b)),
        )

    pub list_fine : (exit : ℕ) (guarded : Test) (list : Statements) (scope : Scope) (m : Made) (out : ℕ →
        Test) (S : List Variable) (t : Text) → AllFit program F list → IsScopedList scope list → W scope →
        Grown nothing kernel (list_code calls here exit guarded list m).made
        → ((k : ℕ) → way_out_of_all true true list ≡ Some k → Var exit → ⊥) → A scope S (some_holds at.inside list) →
        Ok program kernel S (statements_before at list t) → L scope out
        → Go (λ c. live_in c (list_code calls here exit guarded list m).rest (out c))
        (list_code calls here exit guarded list m).inside × Go out (list_code calls here exit guarded list m).rest
    list_fine exit guarded empty scope m out S t h n w g no_exit around ok live =
        let f = fine_reads program kernel (XS scope) false NoLine out tt live
        (around_good program kernel (XS scope) S false around) in (f, f)
    list_fine exit guarded (also s rest) scope m out S t h n w g no_exit around ok live =
        let scope' = scope_after scope s in
        let b = some_holds at.inside rest in
        let declared = guarded && declares s in
        let way = way_out true true s in
        let way_r = way_out_of_all true true rest in
        let inner = is_guarded declared way guarded in
        let cs = statement_code calls here exit s m in
        let cr = list_code calls here exit inner rest cs.made in
        let gr = rest_grown program kernel at fn calls here set X0 exit declared way cs.lines cr g in
        let gs = list_back nothing kernel calls set.back here exit inner rest cs.made gr in
        let names = sound_list scope s rest n in
        let w' = scope_within program kernel at fn calls here set X0 scope s h.0 w in
        let no_s : (k : ℕ) → way ≡ Some k → Var exit → ⊥ = λ k e. let z = way_first way way_r k e in no_exit z.0 z.1 in
        let no_r : (k : ℕ) → way_r ≡ Some k → Var exit → ⊥ = λ k e. let z = way_second way way_r k e in
        no_exit z.0 z.1 in
        let around' = around_rest program kernel at fn calls here set X0 scope s rest S t ok around in
        let ok' = ok_statement program kernel at set.tail S s (statements_before at rest t) ok in
        let live' = in_after program kernel at fn calls here set X0 scope s out live in
        let r = list_fine exit inner rest scope' cs.made out S t h.1 names.1 w' gr no_r around' ok' live' in
        let quiet_r : (c : ℕ) → Var c → IsApart c here scope' → ListQuiet c inner cr =
        λ c v ap_. list_quiet program c calls (set.quiet c) F here exit inner rest scope' h.1 names.1 ap_
        (λ k e. not_cell program kernel at fn calls here set X0 c exit (no_r k e) v) cs.made in
        let both = in_quiet program kernel at fn calls here set X0 (joined_to cr.inside cr.rest) scope' out w'
        (λ c v ap_. list_joined c inner cr (quiet_r c v ap_)) live' in
        let no_way : declared ≡ true → way ≡ None = λ e. declares_none s true true (declared_declares guarded s e) in
        before_fine program kernel at fn calls here set X0 guarded declared way exit scope' cs.lines cr out b
        (λ o l. statement_fine exit s scope m o S (statements_before at rest t) h.0 names.0 w gs no_s
        (around_less program kernel (XS scope) S _ (holds at.inside s) (λ z. or_left (holds at.inside s) _ z)
        around) ok l) r.0 r.1
        (λ v c i l. both v c i (live_joined c cr.inside cr.rest (out c) ∙ l)) live'
        (λ e. in_quiet program kernel at fn calls here set X0 cr.rest scope' out w'
        (λ c v ap_. (list_parts c inner cr (quiet_r c v ap_) e).1) live')
        (λ k e. in_quiet program kernel at fn calls here set X0 (guarded_before k exit cr.inside cr.rest) scope' out w'
        (λ c v ap_. let z = list_parts c inner cr (quiet_r c v ap_) (inner_true declared way guarded k e no_way) in
        guarded_quiet c k exit cr.inside cr.rest (not_cell program kernel at fn calls here set X0 c exit (no_s k e)
        v) z.0 z.1) live')
        no_s (around_good program kernel (XS scope') S b around')
        (λ f. (list_cutless calls at.inside set.cutless here exit inner rest f cs.made).0)

    arms_fine : (exit site ch : ℕ) (fallen : Atom) (k : ℕ) (arms : Arms) (scope : Scope) (m : Made) (out : ℕ →
        Test) (S : List Variable) (t : Text) → ArmsFit program F arms → AreScopedArms scope arms → W scope →
        Grown nothing kernel (arms_code calls here exit site (CellAtom ch) fallen k arms m).made
        → ((j : ℕ) → way_out_of_arms true true arms ≡ Some j → Var exit → ⊥) → (Var ch → ⊥) →
        L scope (λ c. reads c fallen) → A scope S (arms_hold at.inside arms) →
        Ok program kernel S (arms_before at arms t) → L scope out →
        Go out (arms_code calls here exit site (CellAtom ch) fallen k arms m).lines
    arms_fine exit site ch fallen k no_arm scope m out S t h n w g no_exit ch_not rf around ok live =
        fine_reads program kernel (XS scope) false NoLine out tt live
        (around_good program kernel (XS scope) S false around)
    arms_fine exit site ch fallen k (arm labels default body rest) scope m out S t h n w g no_exit ch_not rf around ok
        live =
        let b = some_holds at.inside body || arms_hold at.inside rest in
        let way = way_out_of_all true true body in
        let way_r = way_out_of_arms true true rest in
        let ce = entry_code (CellAtom ch) fallen k m in
        let cl = list_code calls here exit false body ce.made in
        let lb = joined_to cl.inside cl.rest in
        let cf = fallen_code way exit ce.value cl.made in
        let cr = arms_code calls here exit site (CellAtom ch) cf.value.atom (k + 1) rest cf.made in
        let gf = arms_back nothing kernel calls set.back here exit site (CellAtom ch) cf.value.atom
        (k + 1) rest cf.made g in
        let gl = fallen_back nothing kernel way exit ce.value cl.made gf in
        let ge = list_back nothing kernel calls set.back here exit false body ce.made gl in
        let m1 = with_cell m OfValue Int in
        let n1 = next_cell m1 in
        let n1_not = value_not_even nothing kernel m1 Int ge in
        let n0_not = value_not_even nothing kernel m Int (back_value nothing kernel m1 Int ge) in
        let good = around_good program kernel (XS scope) S b around in
        let sb = branch_scoped scope body n.0 in
        let no_b : (j : ℕ) → way ≡ Some j → Var exit → ⊥ = λ j e. let z = way_first way way_r j e in no_exit z.0 z.1 in
        let no_r : (j : ℕ) → way_r ≡ Some j → Var exit → ⊥ = λ j e. let z = way_second way way_r j e in
        no_exit z.0 z.1 in
        let rn1 = in_cell program kernel at fn calls here set X0 scope n1 n1_not in
        let kf = fallen_reads program kernel at fn calls here set X0 scope way exit ce.value cl.made no_b rn1 gf in
        let not_fallen : (c : ℕ) → Var c → reads c cf.value.atom ≡ false =
        λ c v. elim (true_or_false (reads c cf.value.atom)) [
          | inl e ↦
              absurd (fallen_not program kernel at fn calls here set X0 way exit ce.value cl.made
              (λ z. n1_not z) gf c v e)
          | inr e ↦ e
        ] in
        let ok_r = ok_statements program kernel at set.tail S body _ ok in
        let fine_r = arms_fine exit site ch cf.value.atom (k + 1) rest scope cf.made out S t h.1 n.1 w g no_r ch_not
        kf.1 (around_less program kernel (XS scope) S b (arms_hold at.inside rest)
        (λ z. or_right (some_holds at.inside body) _ z) around) ok_r live in
        let live_r = in_quiet program kernel at fn calls here set X0 cr.lines scope out w
        (λ c v ap_. arms_quiet program c calls (set.quiet c) F here exit site (CellAtom ch) cf.value.atom (k + 1) rest
        scope h.1 n.1 ap_ (λ j e. not_cell program kernel at fn calls here set X0 c exit (no_r j e) v)
        (not_cell program kernel at fn calls here set X0 c ch ch_not v) (not_fallen c v)
        cf.made) live in
        let out1 : ℕ → Test = λ c. live_in c cr.lines (out c) in
        let live_f = in_before program kernel (XS scope) cf.lines out1 kf.0 live_r in
        let fine_f = fine_reads program kernel (XS scope) b cf.lines out1 kf.0 live_r good in
        let out2 : ℕ → Test = λ c. live_in c cf.lines (out1 c) in
        let rb = list_fine exit false body scope ce.made out2 S _ h.0 sb w gl no_b
        (around_less program kernel (XS scope) S b (some_holds at.inside body)
        (λ z. or_left (some_holds at.inside body) _ z) around) ok live_f in
        let fine_b = fine_joined program kernel out2 cl.rest rb.1 cl.inside rb.0 in
        let live_b = in_quiet program kernel at fn calls here set X0 lb scope out2 w
        (λ c v ap_. list_joined c false cl (list_quiet program c calls (set.quiet c) F here exit false body scope
        h.0 sb ap_ (λ j e. not_cell program kernel at fn calls here set X0 c exit (no_b j e) v) ce.made)) live_f in
        let branch = IfThen site (CellAtom n1) lb NoLine NoLine in
        let held = held_by program kernel at fn calls here set X0 b lb NoLine
        (λ f. let p = or_parts (some_holds at.inside body) (arms_hold at.inside rest) f in (
          list_joined_cutless cl (list_cutless calls at.inside set.cutless here exit false body p.0 ce.made),
          record { is = refl },
        )) in
        let fine_i = fine_if program kernel (XS scope) b site (CellAtom n1) lb NoLine out2 good held rn1 live_f live_b
        live_f fine_b (fine_reads program kernel (XS scope) b NoLine out2 tt live_f good) in
        let live_i = in_two program kernel at fn calls here set X0 scope (λ c. reads c (CellAtom n1))
        (λ c. live_in c lb (out2 c) || out2 c) rn1 (in_two program kernel at fn calls here set X0 scope
        (λ c. live_in c lb (out2 c)) out2 live_b live_f) in
        let rest2 = joined_to branch cf.lines in
        let fine2 = fine_joined program kernel out1 cf.lines fine_f branch fine_i in
        let live2 = in_joined program kernel (XS scope) branch cf.lines out1 live_i in
        let re : R scope ce.lines = (
          in_two program kernel at fn calls here set X0 scope (λ c. reads c (CellAtom ch)) (λ c. false)
              (in_cell program kernel at fn calls here set X0 scope ch ch_not)
              (in_none program kernel at fn calls here set X0 scope),
          (
            in_two program kernel at fn calls here set X0 scope (λ c. reads c fallen)
                (λ c. reads c (CellAtom (next_cell m))) rf (in_cell program kernel at fn calls here set X0 scope
                (next_cell m) n0_not),
            tt,
          ),
        ) in
        let fine1 = fine_joined program kernel out1 rest2 fine2 ce.lines
        (fine_reads program kernel (XS scope) b ce.lines (λ c. live_in c rest2 (out1 c)) re live2 good) in
        fine_joined program kernel out cr.lines fine_r (joined_to ce.lines rest2) fine1
