-- The typed unit of an accepted unit is a valid program.
use Rattle.std.proofs.Common.{◌≡◌, ℕ, zero, suc, ◌+◌, ◌*◌, ◌<◌, ◌≤◌, nat_lt, List, [], ◌∷◌, length, map, Option, None}
use Rattle.std.proofs.Common.{Some, Bool, true, false, not, ◌&&◌, ◌||◌, if◌then◌else◌, refl, ap, sym, ◌∙◌, subst, inl}
use Rattle.std.proofs.Common.{inr, arith, slice_get}
use Rattle.std.specs.Prelude.{flat_map, unwrap_or}
use Rattle.std.proofs.lemmas.Bool.{false≢true}
use Rattle.std.proofs.lemmas.Bool.Decides.{nat_tests}
use Rattle.std.proofs.lemmas.Option.{none-some, same_Some}
use Rattle.std.proofs.lemmas.List.Concat.{flat_map-cons}
use Rattle.std.specs.Str.{bytes_eq}
use Rattle.wg_num.specs.declared.types.Place.{Place}
use Rattle.cl_model.specs.Lists.{Each}
use Rattle.cl_model.specs.Tree as tree
use Rattle.cl_model.specs.Tree.{Function, Program}
use Rattle.cl_model.specs.Calls.{CallSite, calls_of_all, function_at, no_function}
use Rattle.cl_model.specs.Valid.{IsValid, IsValidFunction, IsValidTable, sites_of_all, nodes_of_all}
use Rattle.cl_tree.specs.declared.tree.Form.TheVariants as forms
use Rattle.cl_tree.specs.Syntax.{Syntax, node, Forest}
use Rattle.cl_limits.specs.Limits.{called_sum, whole, total}
use Rattle.cl_limits.specs.Kernel.{blocks_in}
use Rattle.cl_meaning.specs.declared.fault.Fault.TheVariants as faults
use Rattle.cl_meaning.specs.declared.kind.Role.TheVariants as roles
use Rattle.cl_meaning.specs.Environment.{Env, Signature, Table, empty_scope, at_start}
use Rattle.cl_meaning.specs.Declarations.{definitions_in}
use Rattle.cl_meaning.specs.Visible.{inside, restored, left, closed, behind, behind_parts}
use Rattle.cl_meaning.specs.Faults.{Asked, defines_kernel}
use Rattle.cl_meaning.specs.Typed as typed_specs
use Rattle.cl_meaning.specs.Typed.{functions, Built}
use Rattle.cl_meaning.specs.Statements.{functions_in}
use Rattle.cl_meaning.specs.Meant.{MadeParts, meant, parts_meant, make, kernel_from, all_functions, unit_meant}
use Rattle.cl_check_sound.specs.Shape.{AreItems}
use Rattle.cl_check_sound.specs.Sound.{SoundTree, SoundParts}
use Rattle.cl_check_sound.specs.Erased.{table_of, function_of, program_of}
use Rattle.cl_check_sound.specs.Fits.{CalledFits}
use Rattle.cl_check_sound.specs.Law.{UnitsValid}
use Rattle.cl_limits.specs.Judged.{nodes_of, asked_in, IsAccepted}
use Rattle.cl_limits.proofs.Within.{each_kept}
use Rattle.cl_check_sound.proofs.Small.{held}
use Rattle.cl_check_sound.proofs.Plain.{sound_tree}
use Rattle.cl_check_sound.proofs.Holding.{extra, extras}
use Rattle.cl_check_sound.proofs.Grown.{extends_same}
use Rattle.cl_check_sound.proofs.Lining.{one_below, one_more}
use Rattle.cl_check_sound.proofs.Functions.{slice_map, map_slice, slice_within, each_slice, length_map}
use Rattle.cl_check_sound.proofs.Constants.{AtUnit}
use Rattle.cl_check_sound.proofs.Items.{AllCalled}
use Rattle.cl_check_sound.proofs.Weights.{calls_alone, site_alone}
use Rattle.cl_check_sound.proofs.Units.{Fact, Facts, site_total, Known, known, AllValid, all_valid}
use Rattle.cl_check_sound.proofs.Tallies.{nodes_light_all, sum_calls, calls_light_all, occurs, occurs_append}
use Rattle.cl_check_sound.proofs.Tallies.{sites_light_all, all_differ, each_place}
use Rattle.cl_check_sound.proofs.Ends.{Edge, all_end}
use Rattle.cl_check_sound.proofs.Collected.{tree_called, none_back, edge_back, all_good, just, edges_of, all_calls}
use Rattle.cl_check_sound.proofs.Instances.{Counted, instances_counted}
use Rattle.cl_check_sound.proofs.Parts.{built_of}

-- ---- the parts of a unit

unit_built : (u : Env) (w : List ℕ) (f l : ℕ) (items : Forest) →
    built_of (meant u [] (node forms.UnitNode w f l items)) ≡
    record {
      what = functions (functions_in (parts_meant u forms.UnitNode true [] items).pieces);
      sites = (parts_meant u forms.UnitNode true [] items).sites;
    }
unfolding meant make inside
unit_built u w f l items = refl

unit_behind : (u : Env) (w : List ℕ) (f l : ℕ) (items : Forest) →
    behind u (node forms.UnitNode w f l items) ≡ closed u (behind_parts u forms.UnitNode true items)
unfolding behind restored left inside
unit_behind u w f l items = refl

unit_parts : (asked : Asked) (u : Env) (w : List ℕ) (f l : ℕ) (items : Forest) →
    SoundTree asked u roles.Other (node forms.UnitNode w f l items) → SoundParts asked u forms.UnitNode None items
unfolding inside
unit_parts asked u w f l items s = s.0

unit_fault : (asked : Asked) (u : Env) (w : List ℕ) (f l : ℕ) (items : Forest) →
    SoundTree asked u roles.Other (node forms.UnitNode w f l items) →
    not (defines_kernel asked.kernel (behind_parts u forms.UnitNode true items).functions) ≡ false
unfolding inside restored
unit_fault asked u w f l items s = s.1.0 faults.NoSuchKernel

unit_extra : (c : ℕ → ℕ) (k : ℕ) (u : Env) (w : List ℕ) (f l : ℕ) (items : Forest) →
    extra (calls_alone c) k u (node forms.UnitNode w f l items) ≡ extras (calls_alone c) k u forms.UnitNode true
    items + (0 + 16 * 0)
unfolding inside
unit_extra c k u w f l items = refl

-- ---- the functions by their numbers

facts_lengths : (top : ℕ → (ℕ → ℕ) → ℕ) (n : ℕ) (gs : List Signature) (Fs : List typed_specs.Function) (ws : List ℕ) →
    Facts top n gs Fs ws → (length gs ≡ length Fs) × (length ws ≡ length Fs)
facts_lengths top n [] [] [] h = (refl, refl)
facts_lengths top n (g ∷ gs) (F ∷ Fs) (w ∷ ws) h = let r =
    facts_lengths top (suc n) gs Fs ws h.1 in (ap suc r.0, ap suc r.1)
facts_lengths top n [] [] (w ∷ ws) h = absurd h
facts_lengths top n [] (F ∷ Fs) ws h = absurd h
facts_lengths top n (g ∷ gs) [] ws h = absurd h
facts_lengths top n (g ∷ gs) (F ∷ Fs) [] h = absurd h

-- what is known of the function with a number
pub record At (top : ℕ → (ℕ → ℕ) → ℕ) (n i : ℕ) (gs : List Signature) (Fs : List typed_specs.Function)
    (ws : List ℕ) : Type 0 where
  pub g : Signature
  pub F : typed_specs.Function
  pub w : ℕ
  pub first : slice_get gs i ≡ Some g
  pub second : slice_get Fs i ≡ Some F
  pub third : slice_get ws i ≡ Some w
  pub fact : Fact top (n + i) g F w

fact_at : (top : ℕ → (ℕ → ℕ) → ℕ) (n : ℕ) (gs : List Signature) (Fs : List typed_specs.Function) (ws : List ℕ)
    (i : ℕ) → Facts top n gs Fs ws → i < length Fs → At top n i gs Fs ws
fact_at top n [] [] [] i h l = absurd (omega arith)
fact_at top n (g ∷ gs) (F ∷ Fs) (w ∷ ws) zero h l = record {
  g = g;
  F = F;
  w = w;
  first = refl;
  second = refl;
  third = refl;
  fact = subst (λ z. Fact top z g F w) (let e : n ≡ n + 0 = omega arith in e) h.0;
}
fact_at top n (g ∷ gs) (F ∷ Fs) (w ∷ ws) (suc i) h l =
    let r = fact_at top (suc n) gs Fs ws i h.1 (omega arith) in
    record {
      g = r.g;
      F = r.F;
      w = r.w;
      first = r.first;
      second = r.second;
      third = r.third;
      fact = subst (λ z. Fact top z r.g r.F r.w) (let e : suc n + i ≡ n + suc i = omega arith in e) r.fact;
    }
fact_at top n [] [] (w ∷ ws) i h l = absurd h
fact_at top n [] (F ∷ Fs) ws i h l = absurd h
fact_at top n (g ∷ gs) [] ws i h l = absurd h
fact_at top n (g ∷ gs) (F ∷ Fs) [] i h l = absurd h

-- ---- the kernel, and sites

kernel_below : (name : List ℕ) (n : ℕ) (gs : List Signature) → defines_kernel name gs ≡ true →
    kernel_from name n gs < n + length gs
kernel_below name n [] h = absurd (false≢true h)
kernel_below name n (g ∷ gs) h = by (bytes_eq g.name name && g.kernel) h (λ e. kernel_below name (suc n) gs e)
  where
    by : (b : Bool) → (b || defines_kernel name gs) ≡ true →
        (defines_kernel name gs ≡ true → kernel_from name (suc n) gs < suc n + length gs) →
        (if b then n else kernel_from name (suc n) gs) < n + suc (length gs)
    by true h k = omega arith
    by false h k = let e = k h in omega arith

site_held : (s n : ℕ) → held (site_alone s) n ≡ one_below s n
site_held s zero = by (nat_lt s 0) (let e : nat_lt s 0 ≡ false = grind (arith, nat_tests) in e)
  where
    by : (b : Bool) → b ≡ false → zero ≡ (if b then 1 else 0)
    by true e = absurd (false≢true (sym e))
    by false e = refl
site_held s (suc n) = let a = site_held s n in let b = one_more s n in omega arith

abbrev flag : Bool → ℕ
flag b = if b then 1 else 0

below_once : (s n : ℕ) → (one_below s n ≤ 1) × (1 ≤ one_below s n → s < n)
below_once s n = by (nat_lt s n) refl
  where
    by : (b : Bool) → nat_lt s n ≡ b → (flag b ≤ 1) × (1 ≤ flag b → s < n)
    by true e = (omega arith, λ h. grind (arith, nat_tests))
    by false e = (omega arith, λ h. absurd (omega arith))

all_sites : (s : ℕ) (Fs : List typed_specs.Function) →
    occurs s (flat_map (λ (f : Function). sites_of_all f.body) (map function_of Fs)) ≤ site_total s Fs
all_sites s [] = omega arith
all_sites s (F ∷ Fs) =
    let a = all_sites s Fs in
    let b = sites_light_all s F.body in
    let c =
    ap (occurs s) (flat_map-cons (λ (f : Function). sites_of_all f.body) (function_of F) (map function_of Fs)) in
    let d =
    occurs_append s (sites_of_all F.body) (flat_map (λ (f : Function). sites_of_all f.body) (map function_of Fs)) in
    omega arith

each_both : {A : Type 0} (Q R : A → Type 0) (xs : List A) → Each Q xs → Each R xs → Each (λ x. Q x × R x) xs
each_both Q R [] h k = tt
each_both Q R (x ∷ xs) h k = ((h.0, k.0), each_both Q R xs h.1 k.1)

pub nothing_at_start : (P : Program) (ms : List (List ℕ)) (places : List Place) (gs : List Signature) →
    AtUnit P ms (at_start places gs)
nothing_at_start P ms places gs = ((λ f q m e. absurd (none-some m e)), (λ q m e. absurd (none-some m e)))

not_is : (b : Bool) → not b ≡ false → b ≡ true
not_is true h = refl
not_is false h = absurd (false≢true (sym h))

module _ (places : List Place) (kernel : List ℕ) (w : List ℕ) (f l : ℕ) (items : Forest) (h : AreItems items)
    (acc : IsAccepted places kernel (node forms.UnitNode w f l items)) where
  abbrev pub unit : Syntax
  unit = node forms.UnitNode w f l items

  abbrev pub gs : List Signature
  gs = definitions_in items

  abbrev pub start : Env
  start = at_start places gs

  abbrev pub asked : Asked
  asked = asked_in places kernel unit

  pub sound : SoundTree asked start roles.Other unit
  sound = (sound_tree asked start roles.Other unit [] (all_good asked (nodes_of places unit) acc.sound (λ q k. k))).0

  pub parts : SoundParts asked start forms.UnitNode None items
  parts = unit_parts asked start w f l items sound

  abbrev pub top : ℕ → (ℕ → ℕ) → ℕ
  top k c = called_sum c asked.calls k

  topped : (k : ℕ) (c : ℕ → ℕ) → extras (calls_alone c) k start forms.UnitNode true items ≤ top k c
  topped k c = let a = tree_called c k start roles.Other unit [] in let b =
      unit_extra c k start w f l items in omega arith

  abbrev pub ms : MadeParts
  ms = parts_meant start forms.UnitNode true [] items

  abbrev pub Fs : List typed_specs.Function
  Fs = functions_in ms.pieces

  abbrev pub ws : List ℕ
  ws = blocks_in items

  abbrev pub last : Env
  last = behind_parts start forms.UnitNode true items

  facts : Known top 0 gs ms ws 0
  facts = known asked top start true [] None items [] h parts (empty_scope, refl) tt refl topped

  -- the typed unit, without names
  abbrev pub P : Program
  P = record {
    tables = map table_of last.tables;
    functions = map function_of Fs;
    kernel = kernel_from kernel 0 gs;
    sites = ms.sites;
  }

  many : length P.functions ≡ length Fs
  many = length_map function_of Fs

  at_number : (i : ℕ) → i < length P.functions → At top 0 i gs Fs ws
  at_number i lt = fact_at top 0 gs Fs ws i facts.facts (let m = many in omega arith)

  function_is : (i : ℕ) (F : typed_specs.Function) → slice_get Fs i ≡ Some F → function_at P i ≡ function_of F
  function_is i F e = ap (λ z. unwrap_or z no_function) (map_slice function_of Fs i F e)

  pub called : AllCalled P gs
  called n g s k =
      let lg = (facts_lengths top 0 gs Fs ws facts.facts).0 in
      let lt = slice_within gs n g s in
      let m = many in
      let x = at_number n (omega arith) in
      let e : x.g ≡ g = same_Some _ _ (sym x.first ∙ s) in
      let fc : Fact top n x.g x.F x.w =
      subst (λ z. Fact top z x.g x.F x.w) (let q : 0 + n ≡ n = omega arith in q) x.fact in
      subst (λ z. CalledFits P n z) e (fc.called P (omega arith) (function_is n x.F x.second)
      (ap (λ (z : Signature). z.kernel) e ∙ k))

  valid : AllValid P Fs start last
  valid = all_valid P asked gs last.tables refl called start true [] None items [] h parts (
    empty_scope,
    refl,
  ) refl refl (nothing_at_start P asked.missing places gs) refl refl (extends_same last.tables)

  function_valid : (n : ℕ) (g : Function) → slice_get P.functions n ≡ Some g → IsValidFunction P g
  function_valid n g e =
      let q = slice_map function_of Fs n g e in
      subst (IsValidFunction P) q.2 (each_slice (λ (F : typed_specs.Function). IsValidFunction P (function_of F)) Fs n
      q.0 valid.functions' q.1)

  table_valid : (n : ℕ) (t : tree.Table) → slice_get P.tables n ≡ Some t → IsValidTable t
  table_valid n t e =
      let q = slice_map table_of last.tables n t e in
      subst IsValidTable q.2 (each_slice (λ (t : Table). IsValidTable (table_of t)) last.tables n q.0
      (valid.tables' tt) q.1)

  kernel_valid : P.kernel < length P.functions
  kernel_valid =
      let e = not_is (defines_kernel kernel last.functions) (unit_fault asked start w f l items sound) in
      let k = kernel_below kernel 0 gs
      (subst (λ z. defines_kernel kernel z ≡ true) (ap (λ (z : Env). z.functions) valid.grown'.frame) e) in
      let lg = (facts_lengths top 0 gs Fs ws facts.facts).0 in
      let m = many in
      omega arith

  calls_counted : (i : ℕ) (x : At top 0 i gs Fs ws) (c : ℕ → ℕ) →
      sum_calls c (calls_of_all x.F.body) ≤ called_sum c asked.calls i
  calls_counted i x c = let a = calls_light_all c x.F.body in let b = x.fact.calls c in let e =
      ap (λ z. top z c) (let q : 0 + i ≡ i = omega arith in q) in omega arith

  typed_calls : (i : ℕ) → i < length P.functions →
      Each (λ (c : CallSite). Edge asked.calls i c.function × (c.function < length P.functions))
      (calls_of_all (function_at P i).body)
  typed_calls i lt =
      let x = at_number i lt in
      let e = function_is i x.F x.second in
      let v = function_valid i (function_of x.F) (map_slice function_of Fs i x.F x.second) in
      subst (λ (z : Function). Each (λ (c : CallSite). Edge asked.calls i c.function ×
      (c.function < length P.functions)) (calls_of_all z.body)) (sym e)
      (each_both (λ (c : CallSite). Edge asked.calls i c.function) (λ (c : CallSite). c.function < length P.functions)
      (calls_of_all x.F.body) (edges_of asked.calls i (calls_of_all x.F.body) (λ t. calls_counted i x (just t)))
      (all_calls P (function_of x.F) x.F.body v.types))

  site_once : (s : ℕ) → occurs s (flat_map (λ (f : Function). sites_of_all f.body) P.functions) ≤
      one_below s (length ms.sites)
  site_once s =
      let a = all_sites s Fs in
      let b = facts.sites' s in
      let c = site_held s (length ms.sites) in
      omega arith

  counted : (i : ℕ) → Counted P ws asked.calls i
  counted i = by (slice_get P.functions i) refl
    where
      by : (o : Option Function) → slice_get P.functions i ≡ o → Counted P ws asked.calls i
      by None e =
          let q : function_at P i ≡ no_function = ap (λ z. unwrap_or z no_function) e in
          inl (ap (λ (z : Function). nodes_of_all z.body) q, ap (λ (z : Function). calls_of_all z.body) q)
      by (Some g) e =
          let x = at_number i (slice_within P.functions i g e) in
          let q = function_is i x.F x.second in
          let n = nodes_light_all x.F.body in
          let k = x.fact.nodes in
          let d = ap (λ (z : Function). nodes_of_all z.body) q in
          inr (
            x.w,
            x.third,
            omega arith,
            λ c. subst (λ (z : Function). sum_calls c (calls_of_all z.body) ≤ called_sum c asked.calls i) (sym q)
                (calls_counted i x c),
          )

  not_over : (n : ℕ) → nat_lt 16384 n ≡ false → n ≤ 16384
  not_over n e = grind (arith, nat_tests)

  unit_valid : IsValid P
  unit_valid = record {
    kernel = kernel_valid;
    tables = table_valid;
    functions = function_valid;
    calls = all_end P asked.calls (λ i x e. edge_back asked.calls asked.calls i x
        (none_back asked (nodes_of places unit) acc.sound) e) typed_calls;
    sites = all_differ (flat_map (λ (f : Function). sites_of_all f.body) P.functions) (λ s. (let a = site_once s in
        let b = (below_once s (length ms.sites)).0 in omega arith));
    places = each_place (length ms.sites) (flat_map (λ (f : Function). sites_of_all f.body) P.functions)
        (λ s k. (let a = site_once s in (below_once s (length ms.sites)).1 (omega arith)));
    size =
        (let a = instances_counted P ws asked.calls counted (length P.functions) [] P.kernel in
        let b = not_over (whole ws asked.calls P.kernel) (each_kept _ acc.within faults.KernelTooLarge) in
        let m = many in
        let lw = (facts_lengths top 0 gs Fs ws facts.facts).1 in
        let e : length ws ≡ length P.functions = omega arith in
        let d = ap (λ z. total z ws asked.calls P.kernel) e in
        omega arith);
  }

  pub program_is : program_of (unit_meant places kernel unit) ≡ P
  program_is =
      let b = unit_built start w f l items in
      ap (λ z. record {
        tables = map table_of z;
        functions = map function_of (all_functions (meant start [] unit).piece.what);
        kernel = kernel_from kernel 0 gs;
        sites = (meant start [] unit).sites;
      })
      (ap (λ (z : Env). z.tables) (unit_behind start w f l items))
      ∙ ap (λ (z : Built). record {
        tables = map table_of last.tables;
        functions = map function_of (all_functions z.what);
        kernel = kernel_from kernel 0 gs;
        sites = z.sites;
      }) b

pub units_valid : UnitsValid
units_valid places kernel (node forms.UnitNode w f l items) h acc =
    subst IsValid (sym (program_is places kernel w f l items h acc)) (unit_valid places kernel w f l items h acc)
units_valid places kernel t h acc = absurd h
