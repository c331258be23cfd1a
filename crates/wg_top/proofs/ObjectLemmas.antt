-- What an object asks of its launches, and the object of a compiled kernel.
use Rattle.std.proofs.Common.{◌≡◌, ◌≤◌, ◌*◌, ◌+◌, ℕ, zero, suc, List, [], ◌∷◌, length, map, take, refl, sym, ◌∙◌, ap}
use Rattle.std.proofs.Common.{ap₂}
use Rattle.std.proofs.Common.{arith, Option, Some, get_or, subst, drop, ◌<◌, ◌↔◌}
use Rattle.std.proofs.Math.Seq.{drop-cons}
use Rattle.std.specs.Prelude.{Err}
use Rattle.cl_model.specs.Lists.{Each}
use Rattle.wg_object.specs.Views.{Answers}
use Rattle.wg_object.specs.declared.coding.DecodeError.TheVariants.{NotObject}
use Rattle.std.specs.Prelude.{All, sum, min, Bool, true, false, IsTrue}
use Rattle.wg_num.specs.declared.types.IntType.{IntType}
use Rattle.wg_num.specs.Bytes.{size_of}
use Rattle.cl_model.specs.declared.program.Space.{Space}
use Rattle.cl_model.specs.declared.program.VarKind.{VarKind}
use Rattle.cl_model.specs.declared.program.Var.{Var}
use Rattle.cl_model.specs.declared.program.Array.{Array}
use Rattle.cl_model.specs.declared.program.Program.{Program}
use Rattle.cl_model.specs.Sizes.{product}
use Rattle.cl_limits.specs.Limits.{in_local, local_arrays}
use Rattle.cl_prep.specs.declared.prep.Define.{Define}
use Rattle.cl_meaning.specs.View.{unit_of, function_of, array_of, variable_of}
use Rattle.cl_front.specs.Typed.{HasTypedUnit}
use Rattle.lane_code.specs.View.{plain_of}
use Rattle.launch_file.specs.declared.text.LaunchPart.{LaunchPart}
use Rattle.launch_file.specs.Texts.{Part, part_of}
use Rattle.launch_file.specs.Values.{HasNumber}
use Rattle.launch_file.specs.Binding.{Needs}
use Rattle.launch_file_bind.specs.Needed.{needs_of_kernel}
use Rattle.wg_compile.specs.declared.Compiled.{Compiled}
use Rattle.wg_compile.specs.Correct.{IsCompilation}
use Rattle.wg_compile.proofs.Sums.{sum-cons}
use Rattle.wg_object.specs.declared.object.Object.{Object}
use Rattle.wg_object.specs.Plain.{PlainObject}
use Rattle.wg_object.specs.View.{object_of}
use Rattle.wg_object.specs.Valid.{IsObjectOf}
use Rattle.wg_object.specs.Shell.{shell_array, IsShell}
use Rattle.wg_object.proofs.Together.{program_is}
use Rattle.wg_top.specs.declared.runnable.Runnable.{Runnable}
use Rattle.wg_top.specs.Units.{needs_in}
use Rattle.wg_top.specs.Programs.{Runs, runs_of, HasKinds}
use Rattle.wg_top.specs.CompiledObjects.{CompilesTo, needs_of_object, object_runs, runs_each}
use Rattle.wg_top.specs.Objects.{first_kernel}
use Rattle.wg_top.proofs.MiddleLemmas.{params_in}
use Rattle.wg_top.proofs.OutcomeLemmas.{compiled_to, compiled_group, made_of}
use Rattle.wg_top.proofs.RunLemmas.{numbers_fit, unit_valid}

-- ---- what a shell asks

kinds_same : (vars : List Var) → map (λ v. v.kind) (map variable_of vars) ≡ map (λ v. v.kind) vars
kinds_same [] = refl
kinds_same (v ∷ vars) = ap (λ ks. v.kind ∷ ks) (kinds_same vars)

take_all : {X : Type 0} (xs : List X) → take (length xs) xs ≡ xs
take_all [] = refl
take_all (x ∷ xs) = ap (λ ys. x ∷ ys) (take_all xs)

-- the local bytes of an array, by its space, element and lengths
abbrev local_of : Space × IntType × List ℕ → ℕ
local_of a = in_local a.0 (size_of a.1 * product a.2)

locals_sum : (arrays : List Array) →
    local_arrays (map array_of arrays) ≡ sum (map local_of (map (λ a. (a.space, a.element, a.dims.items)) arrays))
locals_sum [] = refl
locals_sum (a ∷ arrays) =
    ap (λ n. local_of (a.space, a.element, a.dims.items) + n) (locals_sum arrays) ∙
    sym (sum-cons (local_of (a.space, a.element, a.dims.items))
    (map local_of (map (λ a. (a.space, a.element, a.dims.items)) arrays)))

one_local : (n : ℕ) → local_of (shell_array n) ≡ n
one_local n = omega arith

shell_sum : (ns : List ℕ) → sum (map local_of (map shell_array ns)) ≡ sum ns
shell_sum [] = refl
shell_sum (n ∷ ns) =
    sum-cons (local_of (shell_array n)) (map local_of (map shell_array ns)) ∙
    (ap₂ (λ a b. a + b) (one_local n) (shell_sum ns) ∙ sym (sum-cons n ns))

capped : (n : ℕ) → n ≤ 65536 → min n 18446744073709551615 ≡ n
capped n small = omega (arith, small)

pub one_needs : (kinds kinds' : List VarKind) (n n' : ℕ) (sizes sizes' : Option (List ℕ)) → kinds ≡ kinds' → n ≡ n' →
    sizes ≡ sizes' → ◌≡◌ {A = Needs} (record { kinds = kinds; local_bytes = n; required = sizes }) (record {
      kinds = kinds';
      local_bytes = n';
      required = sizes';
    })
one_needs kinds kinds' n n' sizes sizes' a b c = cc

pub shell_needs : (o : PlainObject) (p : Program) → IsShell o p → sum o.locals ≤ 65536 →
    needs_in (unit_of p) ≡ needs_of_object o
shell_needs o p shell small =
    let f = shell.function in
    let one : needs_in (unit_of p) ≡ needs_of_kernel (function_of f ∷ []) 0 =
    ap₂ (λ fs k. needs_of_kernel (map function_of fs) k) shell.one shell.kernel in
    let kinds : take f.params (map (λ v. v.kind) (map variable_of f.vars.items)) ≡ o.params =
    ap₂ (λ n ks. take n ks) shell.is.params (kinds_same f.vars.items ∙ shell.is.kinds) ∙ take_all o.params in
    let locals : local_arrays (map array_of f.arrays.items) ≡ sum o.locals =
    locals_sum f.arrays.items ∙ (ap (λ as'. sum (map local_of as')) shell.is.arrays ∙ shell_sum o.locals) in
    one ∙ one_needs _ _ _ _ _ _ kinds
    (ap (λ n. min n 18446744073709551615) locals ∙ capped (sum o.locals) small) shell.is.sizes

-- ---- one for each launch

one_runs : (needs needs' : Needs) (g g' : _) → needs ≡ needs' → g ≡ g' →
    ◌≡◌ {A = Runs} (record { needs = needs; program = g }) (record { needs = needs'; program = g' })
one_runs needs needs' g g' a b = cc

-- a shell and the object's program are what is bound and run of the object
pub runs_is : (x : Object) (r : Runnable) → IsShell (object_of x) r.program.now → r.group.now ≡ x.group →
    runs_of r ≡ object_runs (object_of x)
runs_is x r shell group =
    one_runs _ _ _ _ (shell_needs (object_of x) r.program.now shell x.locals)
    (ap plain_of group ∙ sym (program_is x.group x.sizes))

first_same : {A : Type 0} {x y : A} {xs ys : List A} → x ∷ xs ≡ y ∷ ys → x ≡ y
first_same e = cc e

rest_same : {A : Type 0} {x y : A} {xs ys : List A} → x ∷ xs ≡ y ∷ ys → xs ≡ ys
rest_same e = cc e

pub object_kinds : (x : Object) (r : Runnable) → IsShell (object_of x) r.program.now → r.group.now ≡ x.group →
    HasKinds r
object_kinds x r shell group = let one = runs_is x r shell group in
    ap (λ (q : Runs). q.needs.kinds) one ∙ (object_params x ∙ sym (ap (λ (q : Runs). q.program.params) one))
  where
    object_params : (y : Object) → (object_runs (object_of y)).needs.kinds ≡ (object_runs (object_of y)).program.params
    object_params y = refl

module _ (x : Object) (program : Program) (shell : IsShell (object_of x) program) where
  pub all_runs : (list : List LaunchPart) (rs : List Runnable) →
      map (λ r. r.program.now) rs ≡ map (λ p. program) list → map (λ r. r.group.now) rs ≡ map (λ p. x.group) list →
      map runs_of rs ≡ runs_each (object_of x) (map part_of list)
  all_runs [] [] a b = refl
  all_runs (p ∷ list) (r ∷ rs) a b =
      ap₂ (λ y ys. y ∷ ys) (runs_is x r (subst (IsShell (object_of x)) (sym (first_same a)) shell) (first_same b))
      (all_runs list rs (rest_same a) (rest_same b))
  all_runs [] (r ∷ rs) a b = absurd (let never : ⊥ = cc a in never)
  all_runs (p ∷ list) [] a b = absurd (let never : ⊥ = cc a in never)

  pub all_kinds : (list : List LaunchPart) (rs : List Runnable) →
      map (λ r. r.program.now) rs ≡ map (λ p. program) list → map (λ r. r.group.now) rs ≡ map (λ p. x.group) list →
      All HasKinds rs
  all_kinds [] [] a b k d lt = absurd (omega arith)
  all_kinds (p ∷ list) (r ∷ rs) a b zero d lt =
      object_kinds x r (subst (IsShell (object_of x)) (sym (first_same a)) shell) (first_same b)
  all_kinds (p ∷ list) (r ∷ rs) a b (suc k) d lt =
      all_kinds list rs (rest_same a) (rest_same b) k d (omega arith)
  all_kinds [] (r ∷ rs) a b k d lt = absurd (let never : ⊥ = cc a in never)
  all_kinds (p ∷ list) [] a b k d lt = absurd (omega arith)

-- ---- the object of a compiled kernel

pub compiles : (bytes : List ℕ) (defines : List Define) (kernel : List ℕ) (width : ℕ) (c : Compiled) (x : Object) →
    All HasNumber defines → IsCompilation width c → HasTypedUnit bytes defines kernel (unit_of c.program) →
    c.group.kernel ≡ kernel → x.group ≡ c.group → x.sizes ≡ (needs_in (unit_of c.program)).required →
    sum x.group.locals.items ≡ (needs_in (unit_of c.program)).local_bytes →
    CompilesTo bytes defines kernel width (object_of x)
compiles bytes defines kernel width c x numbers passes typed name group sizes locals =
    let valid = unit_valid bytes defines kernel c (numbers_fit defines numbers) typed in
    record {
      typed = unit_of c.program;
      compiled = typed;
      made = made_of width c passes valid;
      name = ap (λ g. g.kernel) group ∙ name;
      group = compiled_to width c passes valid;
      program = program_is x.group x.sizes ∙ (ap plain_of group ∙ sym (compiled_group width c passes valid));
      kinds = ap (λ g. g.params.items) group ∙ sym (params_in width c passes);
      local_bytes = locals;
      sizes = sizes;
    }

-- the kernel that the first launch names
pub first_named : (list : List LaunchPart) (part : LaunchPart) → 1 ≤ length list → part ≡ get_or list 0 part →
    first_kernel (map part_of list) ≡ Some part.kernel
first_named [] part some is = absurd (omega arith)
first_named (p ∷ list) part some is = ap (λ (q : LaunchPart). Some q.kernel) (sym is)

pub first_there : (list : List LaunchPart) → 1 ≤ length list → (kernel : List ℕ) ×
    (first_kernel (map part_of list) ≡ Some kernel)
first_there [] some = absurd (omega arith)
first_there (p ∷ list) some = (p.kernel, refl)

-- ---- the launches name the object's kernel

pub named : (o : PlainObject) (kernel : List ℕ) (list held : List LaunchPart) → kernel ≡ o.kernel → held ≡ list →
    Each (λ (p : LaunchPart). p.kernel ≡ kernel) held → Each (λ (p : Part). p.kernel ≡ o.kernel) (map part_of list)
named o kernel list held is same all = each list (subst (λ (ps : List LaunchPart). Each (λ (p : LaunchPart).
    p.kernel ≡ kernel) ps) same all)
  where
    each : (ps : List LaunchPart) → Each (λ (p : LaunchPart). p.kernel ≡ kernel) ps →
        Each (λ (p : Part). p.kernel ≡ o.kernel) (map part_of ps)
    each [] all = tt
    each (p ∷ ps) all = (all.0 ∙ is, each ps all.1)

pub unnamed : (o : PlainObject) (kernel : List ℕ) (list held : List LaunchPart) → kernel ≡ o.kernel → held ≡ list →
    Each (λ (p : Part). p.kernel ≡ o.kernel) (map part_of list) → Each (λ (p : LaunchPart). p.kernel ≡ kernel) held
unnamed o kernel list held is same all = subst (λ (ps : List LaunchPart). Each (λ (p : LaunchPart). p.kernel ≡ kernel)
    ps) (sym same) (each list all)
  where
    each : (ps : List LaunchPart) → Each (λ (p : Part). p.kernel ≡ o.kernel) (map part_of ps) →
        Each (λ (p : LaunchPart). p.kernel ≡ kernel) ps
    each [] all = tt
    each (p ∷ ps) all = (all.0 ∙ sym is, each ps all.1)

-- bytes that are the text of no object, by the answer
pub none_answers : (bytes : List ℕ) → ((o : PlainObject) → IsObjectOf bytes o → Answers o (Err NotObject)) →
    (o : PlainObject) → IsObjectOf bytes o → ⊥
none_answers bytes only = only

-- one more part
module _ (P : LaunchPart → Type 0) (xs : List LaunchPart) (i : ℕ) (x : LaunchPart) (lt : i < length xs)
    (is : x ≡ get_or xs i x) (before : Each P xs ↔ Each P (drop i xs)) where
  head : drop i xs ≡ x ∷ drop (i + 1) xs
  head = drop-cons xs i x lt ∙ (ap (λ y. y ∷ drop (suc i) xs) (sym is) ∙ ap (λ n. x ∷ drop n xs) (next i))
    where
      next : (n : ℕ) → suc n ≡ n + 1
      next n = omega arith

  pub one_more : P x → Each P xs ↔ Each P (drop (i + 1) xs)
  one_more p = (
    λ all. (let both : Each P (x ∷ drop (i + 1) xs) = subst (λ ys. Each P ys) head (before.0 all) in both.1),
    λ rest. before.1 (subst (λ ys. Each P ys) (sym head) (p, rest)),
  )

  pub one_other : (P x → ⊥) → Each P xs → ⊥
  one_other other all =
      let both : Each P (x ∷ drop (i + 1) xs) = subst (λ ys. Each P ys) head (before.0 all) in other both.0

pub said_true : (b : Bool) (P : Type 0) → b ≡ true → IsTrue b ↔ P → P
said_true true P is both = both.0 refl
said_true false P is both = absurd (let never : ⊥ = cc is in never)

pub said_false : (b : Bool) (P : Type 0) → b ≡ false → IsTrue b ↔ P → P → ⊥
said_false false P is both p =
    let same : false ≡ true = both.1 p in
    let never : ⊥ = cc same in never
said_false true P is both p = absurd (let never : ⊥ = cc is in never)
