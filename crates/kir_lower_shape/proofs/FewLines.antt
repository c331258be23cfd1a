-- A lowered kernel has as many loads, stores and barriers as the inlined text.
use Rattle.std.proofs.Common.{◌≡◌, ℕ, zero, suc, ◌+◌, ◌*◌, ◌≤◌, List, [], ◌∷◌, ◌++◌, length, sum_by, refl, sym, ap}
use Rattle.std.proofs.Common.{ap₂, ◌∙◌, arith, true, false, if◌then◌else◌}
use Rattle.std.proofs.Common.{Bool as Test}
use Rattle.std.specs.Prelude.{nat_eq, flat_map}
use Rattle.std.proofs.lemmas.List.Concat.{flat_map-cons}
use Rattle.std.proofs.lemmas.List.Sums.{sum_by-append, sum_by-cons}
use Rattle.cl_model.specs.declared.program.Root.{Root}
use Rattle.cl_model.specs.declared.program.VarKind.{VarKind}
use Rattle.cl_model.specs.Tree as tree
use Rattle.cl_model.specs.Tree.{Action, Program}
use Rattle.cl_model.specs.Lists.{Each}
use Rattle.cl_model.specs.Calls.{CallSite, calls_of_all, function_at, kernel_of, Instance, instances_below}
use Rattle.cl_model.specs.Valid.{IsValid, CallsEnd, parameter_kinds}
use Rattle.kir.specs.Tree.{Lines, NoLine, SetThen, LoadThen, StoreThen, ClearThen, IfThen, LoopThen, BarrierThen}
use Rattle.kir.specs.Counts.{Counting, count_of_all, count_inlined, once_if, load_lines, store_lines, barrier_lines}
use Rattle.kir.specs.Counts.{load_action, store_action, loads_with, stores_with, barriers_with, HasFewLines}
use Rattle.kir.specs.Lowering.{Named}
use Rattle.kir_lower.specs.declared.places.Value.{Value}
use Rattle.kir_lower.specs.Made.{Made}
use Rattle.kir_lower.specs.Made as low
use Rattle.kir_lower.specs.Code.{body_code}
use Rattle.kir_lower.specs.Whole.{names_at, way_behind, instance_at, with_instance, parameter_lines, call_code}
use Rattle.kir_lower.specs.Whole.{bound_lines, kernel_way, nothing_made, lowered_of}
use Rattle.kir_lower_shape.proofs.Tally.{Weight, tally, action_tally, CountsAs, tally_joined, calls_tally, body_weighs}

-- what the text of a function counts, with calls nested less deep than the depth
abbrev pub text_count : Program → Counting → ℕ → ℕ → ℕ
text_count program what zero f = 0
text_count program what (suc depth) f =
    count_of_all what (function_at program f).body + calls_tally (text_count program what depth)
    (calls_of_all (function_at program f).body)

parameters_weigh : (w : Weight) (cell : ℕ) (values : List Value) → tally w (parameter_lines cell values) ≡ 0
parameters_weigh w cell [] = refl
parameters_weigh w cell (v ∷ values) = parameters_weigh w (cell + 1) values

bound_weigh : (w : Weight) (cell n : ℕ) (kinds : List VarKind) → tally w (bound_lines cell n kinds) ≡ 0
bound_weigh w cell n [] = refl
bound_weigh w cell n (kind ∷ kinds) = bound_weigh w (cell + 1) (n + 1) kinds

-- the instances below count what the text does
calls_count : (program : Program) (what : Counting) (depth : ℕ) →
    ((path : List ℕ) (f : ℕ) → sum_by (λ (i : Instance). count_of_all what (function_at program i.function).body)
    (instances_below program depth path f) ≡ text_count program what depth f)
    → (path : List ℕ) (calls : List CallSite)
    → sum_by (λ (i : Instance). count_of_all what (function_at program i.function).body)
    (flat_map (λ (c : CallSite). instances_below program depth (path ++ c.site ∷ []) c.function) calls) ≡
    calls_tally (text_count program what depth) calls
calls_count program what depth each path [] = refl
calls_count program what depth each path (c ∷ calls) =
    let count = λ (i : Instance). count_of_all what (function_at program i.function).body in
    ap (sum_by (λ (i : Instance). count_of_all what (function_at program i.function).body))
    (flat_map-cons (λ (c : CallSite). instances_below program depth (path ++ c.site ∷ []) c.function) c calls)
    ∙ sum_by-append (λ (i : Instance). count_of_all what (function_at program i.function).body)
    (instances_below program depth (path ++ c.site ∷ []) c.function)
    (flat_map (λ (c : CallSite). instances_below program depth (path ++ c.site ∷ []) c.function) calls)
    ∙ ap₂ (λ y z. y + z) (each (path ++ c.site ∷ []) c.function) (calls_count program what depth each path calls)

instances_count : (program : Program) (what : Counting) (depth : ℕ) (path : List ℕ) (f : ℕ) →
    sum_by (λ (i : Instance). count_of_all what (function_at program i.function).body)
    (instances_below program depth path f) ≡ text_count program what depth f
instances_count program what zero path f = refl
instances_count program what (suc depth) path f =
    sum_by-cons (λ (i : Instance). count_of_all what (function_at program i.function).body) (record {
      path = path;
      function = f;
    }) (flat_map (λ (c : CallSite). instances_below program depth (path ++ c.site ∷ [])
    c.function) (calls_of_all (function_at program f).body))
    ∙ ap (λ z. count_of_all what (function_at program f).body + z)
    (calls_count program what depth (instances_count program what depth) path
    (calls_of_all (function_at program f).body))

-- where calls nest less deep than the depth, one level more counts nothing
calls_deep : (program : Program) (what : Counting) (depth : ℕ) →
    ((f : ℕ) → CallsEnd program depth f → text_count program what (suc depth) f ≡ text_count program what depth f)
    → (calls : List CallSite) → Each (λ (c : CallSite). CallsEnd program depth c.function) calls →
    calls_tally (text_count program what (suc depth)) calls ≡ calls_tally (text_count program what depth) calls
calls_deep program what depth each [] h = refl
calls_deep program what depth each (c ∷ calls) h =
    ap₂ (λ y z. y + z) (each c.function h.0) (calls_deep program what depth each calls h.1)

count_deep : (program : Program) (what : Counting) (depth f : ℕ) → CallsEnd program depth f →
    text_count program what (suc depth) f ≡ text_count program what depth f
count_deep program what zero f h = absurd h
count_deep program what (suc depth) f h =
    ap (λ z. count_of_all what (function_at program f).body + z)
    (calls_deep program what depth (count_deep program what depth) (calls_of_all (function_at program f).body) h)

module _ (program : Program) (names : List (List Named)) (w : Weight) (what : Counting) (counts : CountsAs w what) where
  call_weighs : (depth : ℕ) (here : low.Instance) (site function : ℕ) (roots : List Root) (values : List Value)
      (m : Made) → tally w (call_code program names depth here site function roots values m).lines ≡
      text_count program what depth function
  unfolding call_code
  call_weighs zero here site function roots values m = refl
  call_weighs (suc depth) here site function roots values m =
      let way = way_behind program here site function roots in
      let f = function_at program function in
      let inside = with_instance way (names_at names function) f m in
      let body = body_code (call_code program names depth) (instance_at way f m) f inside in
      tally_joined w (parameter_lines (low.next_cell m) values) body.lines
      ∙ ap (λ z. z + tally w body.lines) (parameters_weigh w (low.next_cell m) values)
      ∙ plain (tally w body.lines)
      ∙ body_weighs w what counts (call_code program names depth) (text_count program what depth) (call_weighs depth)
      (instance_at way f m) f inside
    where
      plain : (n : ℕ) → 0 + n ≡ n
      plain n = omega arith

  kernel_weighs : tally w (lowered_of program names).body ≡ text_count program what (suc (length program.functions))
      program.kernel
  unfolding lowered_of
  kernel_weighs =
      let f = kernel_of program in
      let way = kernel_way program in
      let depth = length program.functions in
      let inside = with_instance way (names_at names program.kernel) f nothing_made in
      let body = body_code (call_code program names depth) (instance_at way f nothing_made) f inside in
      tally_joined w (bound_lines 0 0 (parameter_kinds f)) body.lines
      ∙ ap (λ z. z + tally w body.lines) (bound_weigh w 0 0 (parameter_kinds f))
      ∙ plain (tally w body.lines)
      ∙ body_weighs w what counts (call_code program names depth) (text_count program what depth) (call_weighs depth)
      (instance_at way f nothing_made) f inside
    where
      plain : (n : ℕ) → 0 + n ≡ n
      plain n = omega arith

  -- the lines of the kernel weigh what the inlined text counts
  pub same_count : IsValid program → tally w (lowered_of program names).body ≡ count_inlined program what
  same_count valid =
      kernel_weighs ∙ count_deep program what (length program.functions) program.kernel
      (valid.calls program.kernel valid.kernel)
      ∙ sym (instances_count program what (length program.functions) [] program.kernel)

-- ---- loads, stores, barriers

abbrev loads_weight : ℕ → Weight
loads_weight site = record { load = once_if site; store = λ at. 0; barrier = λ at. 0 }

abbrev stores_weight : ℕ → Weight
stores_weight site = record { load = λ at. 0; store = once_if site; barrier = λ at. 0 }

abbrev barriers_weight : ℕ → Weight
barriers_weight site = record { load = λ at. 0; store = λ at. 0; barrier = once_if site }

tally_loads : (site : ℕ) (lines : Lines) → load_lines site lines ≡ tally (loads_weight site) lines
tally_loads site NoLine = refl
tally_loads site (SetThen to work rest) = tally_loads site rest
tally_loads site (LoadThen at to element root index rest) = ap (λ z. once_if site at + z) (tally_loads site rest)
tally_loads site (StoreThen at element root index from rest) = let p = tally_loads site rest in omega arith
tally_loads site (ClearThen array rest) = tally_loads site rest
tally_loads site (IfThen at test chosen other rest) = let p = tally_loads site chosen in let q =
    tally_loads site other in let r = tally_loads site rest in omega arith
tally_loads site (LoopThen at test_first test answer body rest) = let p = tally_loads site test in let q =
    tally_loads site body in let r = tally_loads site rest in omega arith
tally_loads site (BarrierThen at rest) = let p = tally_loads site rest in omega arith

tally_stores : (site : ℕ) (lines : Lines) → store_lines site lines ≡ tally (stores_weight site) lines
tally_stores site NoLine = refl
tally_stores site (SetThen to work rest) = tally_stores site rest
tally_stores site (LoadThen at to element root index rest) = let p = tally_stores site rest in omega arith
tally_stores site (StoreThen at element root index from rest) = ap (λ z. once_if site at + z) (tally_stores site rest)
tally_stores site (ClearThen array rest) = tally_stores site rest
tally_stores site (IfThen at test chosen other rest) = let p = tally_stores site chosen in let q =
    tally_stores site other in let r = tally_stores site rest in omega arith
tally_stores site (LoopThen at test_first test answer body rest) = let p = tally_stores site test in let q =
    tally_stores site body in let r = tally_stores site rest in omega arith
tally_stores site (BarrierThen at rest) = let p = tally_stores site rest in omega arith

tally_barriers : (site : ℕ) (lines : Lines) → barrier_lines site lines ≡ tally (barriers_weight site) lines
tally_barriers site NoLine = refl
tally_barriers site (SetThen to work rest) = tally_barriers site rest
tally_barriers site (LoadThen at to element root index rest) = let p = tally_barriers site rest in omega arith
tally_barriers site (StoreThen at element root index from rest) = let p = tally_barriers site rest in omega arith
tally_barriers site (ClearThen array rest) = tally_barriers site rest
tally_barriers site (IfThen at test chosen other rest) = let p = tally_barriers site chosen in let q =
    tally_barriers site other in let r = tally_barriers site rest in omega arith
tally_barriers site (LoopThen at test_first test answer body rest) = let p = tally_barriers site test in let q =
    tally_barriers site body in let r = tally_barriers site rest in omega arith
tally_barriers site (BarrierThen at rest) = ap (λ z. once_if site at + z) (tally_barriers site rest)

load_actions : (site : ℕ) (a : Action) → load_action site a ≡ action_tally (loads_weight site) a
load_actions site (tree.Load at element root) = refl
load_actions site (tree.Store at element root) = refl
load_actions site (tree.Literal value of) = refl
load_actions site (tree.Variable x) = refl
load_actions site (tree.Unary op of) = refl
load_actions site (tree.Binary op of) = refl
load_actions site (tree.Builtin g of) = refl
load_actions site (tree.Convert to) = refl
load_actions site (tree.Ask what) = refl
load_actions site tree.Second = refl
load_actions site tree.Truth = refl
load_actions site (tree.Decided answer) = refl
load_actions site (tree.Set x) = refl
load_actions site (tree.Change x op of back old) = refl

store_actions : (site : ℕ) (a : Action) → store_action site a ≡ action_tally (stores_weight site) a
store_actions site (tree.Load at element root) = refl
store_actions site (tree.Store at element root) = refl
store_actions site (tree.Literal value of) = refl
store_actions site (tree.Variable x) = refl
store_actions site (tree.Unary op of) = refl
store_actions site (tree.Binary op of) = refl
store_actions site (tree.Builtin g of) = refl
store_actions site (tree.Convert to) = refl
store_actions site (tree.Ask what) = refl
store_actions site tree.Second = refl
store_actions site tree.Truth = refl
store_actions site (tree.Decided answer) = refl
store_actions site (tree.Set x) = refl
store_actions site (tree.Change x op of back old) = refl

barrier_actions : (site : ℕ) (a : Action) → 0 ≡ action_tally (barriers_weight site) a
barrier_actions site (tree.Load at element root) = refl
barrier_actions site (tree.Store at element root) = refl
barrier_actions site (tree.Literal value of) = refl
barrier_actions site (tree.Variable x) = refl
barrier_actions site (tree.Unary op of) = refl
barrier_actions site (tree.Binary op of) = refl
barrier_actions site (tree.Builtin g of) = refl
barrier_actions site (tree.Convert to) = refl
barrier_actions site (tree.Ask what) = refl
barrier_actions site tree.Second = refl
barrier_actions site tree.Truth = refl
barrier_actions site (tree.Decided answer) = refl
barrier_actions site (tree.Set x) = refl
barrier_actions site (tree.Change x op of back old) = refl

so_many : (b : Test) (n : ℕ) → (if b then n else 0) ≡ n * (if b then 1 else 0)
so_many true n = omega arith
so_many false n = omega arith

times_zero : (n : ℕ) → 0 ≡ n * 0
times_zero n = omega arith

loads_counted : (site : ℕ) → CountsAs (loads_weight site) (loads_with site)
loads_counted site =
    record { action = load_actions site; update = λ at. omega arith; fill = λ at n. times_zero n; barrier = λ at. refl }

stores_counted : (site : ℕ) → CountsAs (stores_weight site) (stores_with site)
stores_counted site = record {
  action = store_actions site;
  update = λ at. omega arith;
  fill = λ at n. so_many (nat_eq site at) n;
  barrier = λ at. refl;
}

barriers_counted : (site : ℕ) → CountsAs (barriers_weight site) (barriers_with site)
barriers_counted site =
    record { action = barrier_actions site; update = λ at. refl; fill = λ at n. times_zero n; barrier = λ at. refl }

no_more : (a b c : ℕ) → a ≡ b → b ≡ c → a ≤ c
no_more a b c e f = omega (arith, e, f)

-- for each site the kernel has no more loads, stores and barriers than the inlined kernel of the program
pub has_few_lines : (program : Program) (names : List (List Named)) → IsValid program →
    HasFewLines program (lowered_of program names)
has_few_lines program names valid = record {
  loads = λ site. no_more _ _ _ (tally_loads site (lowered_of program names).body)
      (same_count program names (loads_weight site) (loads_with site) (loads_counted site) valid);
  stores = λ site. no_more _ _ _ (tally_stores site (lowered_of program names).body)
      (same_count program names (stores_weight site) (stores_with site) (stores_counted site) valid);
  barriers = λ site. no_more _ _ _ (tally_barriers site (lowered_of program names).body)
      (same_count program names (barriers_weight site) (barriers_with site) (barriers_counted site) valid);
}
