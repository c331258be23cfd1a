-- The kernel that a program is lowered to has its cuts.
use Rattle.std.proofs.Common.{◌≡◌, ℕ, zero, suc, ◌+◌, ◌<◌, ◌≤◌, length, List, [], ◌∷◌, ◌++◌, Option, Some, None}
use Rattle.std.proofs.Common.{slice_get, refl, sym, ap, ◌∙◌, subst, arith, ◌⊎◌, inl, inr}
use Rattle.std.proofs.Common.{Bool as Test, true, false}
use Rattle.std.proofs.lemmas.Bool.{or_left, or_right}
use Rattle.std.proofs.lemmas.Option.{same_Some}
use Rattle.wg_num.specs.declared.types.IntType.{IntType}
use Rattle.cl_model.specs.declared.program.VarKind.{VarKind}
use Rattle.cl_model.specs.Tree.{Program}
use Rattle.cl_model.specs.Lists.{IsOneOf}
use Rattle.cl_model.specs.Calls.{function_at, kernel_of}
use Rattle.cl_model.specs.Valid.{Has, IsValid, numbers_below, parameter_kinds}
use Rattle.kir.specs.Tree.{Variable, NoLine, joined_to, OfValue, Cell, Kernel}
use Rattle.kir.specs.Live.{reads, some_reads, live_in}
use Rattle.kir.specs.Homes.{IsOf, IsCellOf}
use Rattle.kir.specs.Inlined.{Text, NoText, DeclaredThen, Inlining, variable_of, statements_before, parameters_before}
use Rattle.kir.specs.Inlined.{function_text, inlined, body_holds, has_cut, declared_in, scopes_in, scopes_of, Crosses}
use Rattle.kir.specs.Lowering.{Named, HasCells, HasCuts}
use Rattle.kir_lower.specs.declared.places.Value.{Value}
use Rattle.kir_lower.specs.Made.{Made, Instance, next_cell}
use Rattle.kir_lower.specs.Ways.{way_out_of_all}
use Rattle.kir_lower.specs.Actions.{atoms_of, opened}
use Rattle.kir_lower.specs.Code.{list_code, result_code, body_code}
use Rattle.kir_lower.specs.Whole.{Way, names_at, way_behind, instance_at, with_instance, parameter_lines, call_code}
use Rattle.kir_lower.specs.Whole.{bound_lines, kernel_way, nothing_made, lowered_of}
use Rattle.diverge_sound.proofs.Parts.{in_left, in_right}
use Rattle.kir_lower_shape.specs.Names.{AreNamed}
use Rattle.kir_lower_shape.proofs.Steps.{list_joined}
use Rattle.kir_lower_shape.proofs.Scoped.{has_below}
use Rattle.kir_lower_shape.proofs.Absent.{next_more}
use Rattle.kir_lower_shape.proofs.AbsentCode.{opened_up, list_up}
use Rattle.kir_lower_shape.proofs.AbsentCalls.{calls_up, instance_cells}
use Rattle.kir_lower_shape.proofs.Arguments.{call_goes}
use Rattle.kir_lower_shape.proofs.Below.{valid_any, inlining_at}
use Rattle.kir_lower_shape.proofs.Cells.{has_cells}
use Rattle.kir_lower_shape.proofs.Cutless.{calls_cutless}
use Rattle.kir_lower_shape.proofs.Variables.{cell_named}
use Rattle.kir_lower_shape.proofs.Anew.{list_quiet}
use Rattle.kir_lower_shape.proofs.Starts.{calls_quiet}
use Rattle.kir_lower_uniform.proofs.Ground.{Grown, grown_before, value_not_even, back_value, CallsBack, list_back}
use Rattle.kir_lower_uniform.proofs.Ground.{opened_back}
use Rattle.kir_lower_uniform.proofs.Fresh.{AtomIn, atom_within, CallsFresh, values_not_read}
use Rattle.kir_lower_uniform.proofs.Setting.{ScopeWithin}
use Rattle.kir_lower_uniform.proofs.Wholes.{there}
use Rattle.kir_lower_uniform.proofs.Fine.{Fine, has_cuts_if_fine}
use Rattle.kir_lower_uniform.proofs.FineRules.{In, ReadsIn, in_before, fine_reads, fine_joined, Ok, all_ok}
use Rattle.kir_lower_uniform.proofs.FineRules.{held_statements}
use Rattle.kir_lower_uniform.proofs.FineCode.{nothing, cell_is_variable, FineLines, Around, around_good, CallsFine}
use Rattle.kir_lower_uniform.proofs.FineCode.{Standing, in_quiet, in_joined}
use Rattle.kir_lower_uniform.proofs.FineSteps.{opened_reads, opened_not, not_cell}
use Rattle.kir_lower_uniform.proofs.FineStatements.{list_fine}
use Rattle.kir_lower_uniform.proofs.TextSame.{text_deeper}

parameters_cut : (at : Inlining) (n : ℕ) (t : Text) → has_cut t ≡ true → has_cut (parameters_before at n t) ≡ true
parameters_cut at zero t h = h
parameters_cut at (suc n) t h = parameters_cut at n (DeclaredThen (variable_of at n) t) h

-- a function that holds a barrier has a cut in its text
text_cut : (program : Program) (depth : ℕ) (path : List ℕ) (f : ℕ) → body_holds program depth f ≡ true →
    has_cut (function_text program depth path f) ≡ true
text_cut program zero path f h = cc h
text_cut program (suc depth) path f h =
    parameters_cut (inlining_at program depth path f) (function_at program f).parameters _
    (held_statements (inlining_at program depth path f) (λ site g t e.
    or_right (has_cut (function_text program depth (path ++ site ∷ []) g)) (has_cut t) e) (λ site g t e.
    or_left (has_cut (function_text program depth (path ++ site ∷ []) g)) (has_cut t)
    (text_cut program depth (path ++ site ∷ []) g e))
    (function_at program f).body NoText h)

-- parameters are declared in the block of the function, and cross where a cut stands in its body
parameters_ok : (program : Program) (kernel : Kernel) (at : Inlining) (S : List Variable) (n : ℕ) (t : Text) →
    Ok program kernel S (parameters_before at n t) → Ok program kernel S t ×
    ((y : ℕ) → y < n → (has_cut t ≡ true → Crosses program (variable_of at y)) × IsOneOf S (variable_of at y))
parameters_ok program kernel at S zero t h = (h, λ y l. absurd (omega (arith, l)))
parameters_ok program kernel at S (suc n) t h =
    let k = parameters_ok program kernel at S n (DeclaredThen (variable_of at n) t) h in (
      k.0.2,
      λ y l. elim (split y n l) [
        | inl e ↦ subst (λ z. (has_cut t ≡ true → Crosses program (variable_of at z)) ×
            IsOneOf S (variable_of at z)) (sym e) (k.0.0, k.0.1)
        | inr less ↦ k.1 y less
      ],
    )
  where
    split : (y n : ℕ) → y < suc n → (y ≡ n) ⊎ (y < n)
    split y n l = grind arith

result_in : (kernel : Kernel) (result : Option IntType) (m : Made) (b : ℕ) →
    Grown nothing kernel (result_code result m).made → next_cell (result_code result m).made ≤ b →
    AtomIn nothing kernel (next_cell m) b (result_code result m).value.atom
result_in kernel None m b g le = tt
result_in kernel (Some of) m b g le = let one_more =
    next_more m OfValue of in (omega arith, omega (arith, one_more, le), value_not_even nothing kernel m of g)

result_back : (kernel : Kernel) (result : Option IntType) (m : Made) →
    Grown nothing kernel (result_code result m).made → Grown nothing kernel m
result_back kernel None m g = g
result_back kernel (Some of) m g = back_value nothing kernel m of g

module _ (program : Program) (names : List (List Named)) (kernel : Kernel) (valid : IsValid program)
    (named : AreNamed program names) (tables : kernel.tables ≡ program.tables) (one : (v : Variable) (c d : ℕ) →
    IsCellOf kernel v c → IsCellOf kernel v d → c ≡ d) where
  calls_back : (depth : ℕ) → CallsBack nothing kernel (call_code program names depth)
  calls_back depth here site function roots values m g = let h =
      call_goes program names depth here site function roots values m in grown_before nothing kernel m _ h.0 h.1 g

  calls_fresh : (depth : ℕ) (here : Instance) → CallsFresh nothing kernel (call_code program names depth) here
  unfolding call_code
  calls_fresh zero here site function roots values m g = tt
  calls_fresh (suc depth) here site function roots values m g =
      let calls = call_code program names depth in
      let way = way_behind program here site function roots in
      let f = function_at program function in
      let there_ = instance_at way f m in
      let inside = with_instance way (names_at names function) f m in
      let cr = result_code f.result inside in
      let co = opened (way_out_of_all true true f.body) 0 cr.made in
      let size = instance_cells program names named way function m in
      let go_ = list_back nothing kernel calls (calls_back depth) there_ co.exit false f.body co.made g in
      let gr = opened_back nothing kernel (way_out_of_all true true f.body) 0 cr.made go_ in
      let b = opened_up (way_out_of_all true true f.body) 0 cr.made in
      let d = list_up calls (calls_up program names depth) there_ co.exit false f.body co.made in
      let top = next_cell (call_code program names (suc depth) here site function roots values m).made in
      atom_within nothing kernel (next_cell inside) top (next_cell m) top cr.value.atom (omega (arith, size))
      (omega arith) (result_in kernel f.result inside top gr (omega (arith, b, d)))

  module _ (way : Way) (g : ℕ) (m : Made)
      (grown : Grown nothing kernel (with_instance way (names_at names g) (function_at program g) m))
      (path : way.function ≡ g) where
    cell_there : (y : ℕ) → y < length (function_at program g).variables → (name : Named) × (kind : VarKind) ×
        (slice_get kernel.cells (next_cell m + y) ≡ Some (cell_named way.calls way.places way.function y name kind))
    cell_there y less =
        there program names kernel valid named tables way g m (record { cells = grown.cells }) path y less

    own_variable : (y : ℕ) (v : Variable) → y < length (function_at program g).variables →
        IsCellOf kernel v (next_cell m + y) → v ≡ record { calls = way.calls; function = g; number = y }
    own_variable y v less i =
        let t = cell_there y less in
        let cell = cell_named way.calls way.places way.function y t.0 t.1 in
        let same : i.cell ≡ cell = same_Some i.cell cell (sym i.there ∙ t.2) in
        let is : record { calls = way.calls; function = way.function; number = y } ≡ v =
        subst (λ (z : Cell). IsOf v z.kind) same i.is_of in
        sym is ∙ ap (λ (z : ℕ). let w : Variable = record { calls = way.calls; function = z; number = y } in w) path

    own_cell : (y : ℕ) → y < length (function_at program g).variables →
        IsCellOf kernel (record { calls = way.calls; function = g; number = y }) (next_cell m + y)
    own_cell y less =
        let t = cell_there y less in
        subst (λ (z : ℕ). IsCellOf kernel (record { calls = way.calls; function = z; number = y }) (next_cell m + y))
        path (record { cell = cell_named way.calls way.places way.function y t.0 t.1; there = t.2; is_of = refl })

  -- ---- a body

  module _ (depth g : ℕ) (way : Way) (m : Made) (path : way.function ≡ g) (X0 : Variable →
      Type 0) (S : List Variable) (call : CallsFine program kernel (inlining_at program depth way.calls g)
      (call_code program names depth) (instance_at way (function_at program g) m)) where
    abbrev At : Inlining
    At = inlining_at program depth way.calls g

    abbrev There : Instance
    There = instance_at way (function_at program g) m

    abbrev Inside : Made
    Inside = with_instance way (names_at names g) (function_at program g) m

    standing : Grown nothing kernel Inside → Standing program kernel At g (call_code program names depth) There
    standing grown = record {
      up = calls_up program names depth;
      quiet = λ c. calls_quiet program valid c names depth;
      back = calls_back depth;
      fresh = calls_fresh depth There;
      own = own_variable way g m grown path;
      own_cell = own_cell way g m grown path;
      one = one;
      cut_keeps =
          λ site h t e. or_right (has_cut (function_text program depth (way.calls ++ site ∷ []) h)) (has_cut t) e;
      cut_there = λ site h t e. or_left (has_cut (function_text program depth (way.calls ++ site ∷ []) h)) (has_cut t)
          (text_cut program depth (way.calls ++ site ∷ []) h e);
      tail = λ T site h t ok. ok.2;
      cutless = λ there_ site h roots values n e. calls_cutless program names depth there_ site h roots values n e;
      call = call;
    }

    abbrev Xs : Variable → Type 0
    Xs v = ((y : ℕ) × Has (numbers_below (function_at program g).parameters) y × (v ≡ variable_of At y)) ⊎ X0 v

    module _ (out : ℕ → Test) (grown : Grown nothing kernel (body_code (call_code program names depth) There
        (function_at program g) Inside).made)
        (around : Around program kernel X0 S (body_holds program (suc depth) g))
        (block : IsOneOf (scopes_of program) S)
        (ok : Ok program kernel S (function_text program (suc depth) way.calls g))
        (live : In program kernel X0 out) where
      body_fine : (In program kernel Xs
          (λ c. live_in c (body_code (call_code program names depth) There (function_at program g) Inside).lines
          (out c)) × FineLines program kernel out (body_code (call_code program names depth) There
          (function_at program g) Inside).lines)
          × Around program kernel Xs S (body_holds program (suc depth) g)
      body_fine =
          let calls = call_code program names depth in
          let f = function_at program g in
          let fits = valid_any program valid g in
          let cr = result_code f.result Inside in
          let exits = way_out_of_all true true f.body in
          let co = opened exits 0 cr.made in
          let cl = list_code calls There co.exit false f.body co.made in
          let lines = joined_to cl.inside cl.rest in
          let scope = numbers_below f.parameters in
          let b = body_holds program (suc depth) g in
          let go_ = list_back nothing kernel calls (calls_back depth) There co.exit false f.body co.made grown in
          let gr = opened_back nothing kernel exits 0 cr.made go_ in
          let gi = result_back kernel f.result Inside gr in
          let set = standing gi in
          let p = parameters_ok program kernel At S f.parameters (statements_before At f.body NoText) ok in
          let around' : Around program kernel Xs S b = record {
            inside = λ v x. elim x [
              | inl y ↦
                  subst (IsOneOf S) (sym y.2) (p.1 y.0 (has_below f.parameters y.0 y.1)).1
              | inr o ↦
                  around.inside v o
            ];
            block = block;
            cross = λ e v x. elim x [
              | inl y ↦
                  subst (Crosses program) (sym y.2)
                  ((p.1 y.0 (has_below f.parameters y.0 y.1)).0 (held_statements At set.cut_keeps set.cut_there f.body
                  NoText e))
              | inr o ↦ around.cross e v o
            ];
          } in
          let good = around_good program kernel Xs S b around' in
          let within : ScopeWithin nothing kernel There (length f.variables) scope = λ y has. let z =
          has_below f.parameters y has in let w = fits.parameters in omega (arith, z, w) in
          let exit_not = opened_not program kernel At g calls There set X0 exits 0 cr.made go_ in
          let live' : In program kernel Xs out = λ v c i l. inr (live v c i l) in
          let r = list_fine program kernel At g calls There set X0 co.exit false f.body scope co.made out S NoText
          fits.types fits.scopes within grown exit_not around' p.0 live' in
          let fl = fine_joined program kernel out cl.rest r.1 cl.inside r.0 in
          let ll = in_quiet program kernel At g calls There set X0 lines scope out within
          (λ c v ap_. list_joined c false cl (list_quiet program c calls (set.quiet c) f There co.exit false f.body
          scope fits.types fits.scopes ap_ (λ k e. not_cell program kernel At g calls There set X0 c co.exit
          (exit_not k e) v) co.made)) live' in
          let ro = opened_reads program kernel At g calls There set X0 scope exits 0 cr.made in
          let lo = in_joined program kernel Xs co.lines lines out
          (in_before program kernel Xs co.lines (λ c. live_in c lines (out c)) ro ll) in
          let fo = fine_joined program kernel out lines fl co.lines
          (fine_reads program kernel Xs b co.lines (λ c. live_in c lines (out c)) ro ll good) in
          let rest = joined_to co.lines lines in
          let rr = result_reads f.result in (
            (
              in_joined program kernel Xs cr.lines rest out
                  (in_before program kernel Xs cr.lines (λ c. live_in c rest (out c)) rr lo),
              fine_joined program kernel out rest fo cr.lines
                  (fine_reads program kernel Xs b cr.lines (λ c. live_in c rest (out c)) rr lo good),
            ),
            around',
          )
        where
          result_reads : (result : Option IntType) → ReadsIn program kernel Xs (result_code result Inside).lines
          result_reads None = tt
          result_reads (Some of) = ((λ v c i e. absurd (let z : false ≡ true = e in cc)), tt)

  parameters_reads : (Y : Variable → Type 0) (cell : ℕ) (values : List Value) →
      In program kernel Y (λ c. some_reads c (atoms_of values)) → ReadsIn program kernel Y (parameter_lines cell values)
  parameters_reads Y cell [] h = tt
  parameters_reads Y cell (v ∷ values) h = (
    (λ w c i e. h w c i (or_left (reads c v.atom) _ e)),
    parameters_reads Y (cell + 1) values (λ w c i e. h w c i (or_right (reads c v.atom) _ e)),
  )

  bound_reads : (Y : Variable → Type 0) (cell n : ℕ) (kinds : List VarKind) →
      ReadsIn program kernel Y (bound_lines cell n kinds)
  bound_reads Y cell n [] = tt
  bound_reads Y cell n (kind ∷ kinds) =
      ((λ v c i e. absurd (let z : false ≡ true = e in cc)), bound_reads Y (cell + 1) (n + 1) kinds)

  -- calls are fine
  calls_fine : (depth fn : ℕ) (here : Instance) →
      CallsFine program kernel (inlining_at program depth here.calls fn) (call_code program names depth) here
  unfolding call_code
  calls_fine zero fn here = λ site g roots values a m out Y S t within count all grown around ok live.
      fine_reads program kernel Y false NoLine out tt live (around_good program kernel Y S false around)
  calls_fine (suc depth) fn here = λ site g roots values a m out Y S t within count all grown around ok live.
      let way = way_behind program here site g roots in
      let T = function_text program (suc depth) way.calls g in
      let S' = declared_in T ++ S in
      let around' : Around program kernel Y S' (body_holds program (suc depth) g) =
      record {
        inside = λ v y. in_right (declared_in T) S v (around.inside v y);
        block = ok.0;
        cross = around.cross;
      } in
      let body = body_fine depth g way m refl Y S' (calls_fine depth g (instance_at way (function_at program g) m))
      out grown around' ok.0 ok.1 live in
      let Z = Xs depth g way m refl Y S' (calls_fine depth g (instance_at way (function_at program g) m)) in
      let lines = (body_code (call_code program names depth) (instance_at way (function_at program g) m)
      (function_at program g) (with_instance way (names_at names g) (function_at program g) m)).lines in
      let r = parameters_reads Z (next_cell m) values
      (λ v c i e. absurd (let z = values_not_read nothing kernel a (next_cell m) values c all
      (cell_is_variable program kernel v c i) in let y : true ≡ false = sym e ∙ z in cc)) in
      fine_joined program kernel out lines body.0.1 (parameter_lines (next_cell m) values)
      (fine_reads program kernel Z (body_holds program (suc depth) g) (parameter_lines (next_cell m) values)
      (λ c. live_in c lines (out c)) r body.0.0
      (around_good program kernel Z S' (body_holds program (suc depth) g) body.1))

-- the lowered kernel is fine
kernel_fine : (program : Program) (names : List (List Named)) → IsValid program → AreNamed program names →
    HasCells program names (lowered_of program names) →
    Fine program (lowered_of program names) (λ c. false) (lowered_of program names).body
unfolding lowered_of
kernel_fine program names valid named cells =
    let kernel = lowered_of program names in
    let depth = length program.functions in
    let k = program.kernel in
    let f = kernel_of program in
    let way = kernel_way program in
    let here = instance_at way f nothing_made in
    let inside = with_instance way (names_at names k) f nothing_made in
    let body_ = body_code (call_code program names depth) here f inside in
    let T = function_text program (suc depth) [] k in
    let same : T ≡ inlined program = text_deeper program depth [] k (valid.calls k valid.kernel) in
    let S = declared_in (inlined program) ++ [] in
    let none_ : Variable → Type 0 = λ v. ⊥ in
    let block : IsOneOf (scopes_of program) S = inl refl in
    let ok0 = all_ok program kernel S (inlined program) (λ v i. i)
    (λ s i. inr (in_left (scopes_in S (inlined program)) [] s i)) (λ v i. in_left (declared_in (inlined program))
    [] v i) in
    let ok = subst (Ok program kernel S) (sym same) ok0 in
    let grown : Grown nothing kernel body_.made = record { cells = λ n c at. at } in
    let around : Around program kernel none_ S (body_holds program (suc depth) k) =
    record { inside = λ v x. absurd x; block = block; cross = λ e v x. absurd x } in
    let call = calls_fine program names kernel valid named refl cells.one depth k here in
    let body = body_fine program names kernel valid named refl cells.one depth k way nothing_made refl none_ S call
    (λ c. false) grown around block ok (λ v c i e. absurd (let z : false ≡ true = e in cc)) in
    let Z = Xs program names kernel valid named refl cells.one depth k way nothing_made refl none_ S call in
    let b = body_holds program (suc depth) k in
    fine_joined program kernel (λ c. false) body_.lines body.0.1 (bound_lines 0 0 (parameter_kinds f))
    (fine_reads program kernel Z b (bound_lines 0 0 (parameter_kinds f)) (λ c. live_in c body_.lines false)
    (bound_reads program names kernel valid named refl cells.one Z 0 0 (parameter_kinds f)) body.0.0
    (around_good program kernel Z S b body.1))

-- so the kernel that a valid program is lowered to has its cuts: a variable's cell that is live at a cut is that of a
-- variable that crosses, and no two that are live at one cut are of variables with disjoint scopes
pub has_cuts : (program : Program) (names : List (List Named)) → IsValid program → AreNamed program names →
    HasCuts program (lowered_of program names)
has_cuts program names valid named =
    has_cuts_if_fine program (lowered_of program names)
    (kernel_fine program names valid named (has_cells program names valid named))
