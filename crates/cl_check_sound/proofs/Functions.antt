-- A function in which no node is at fault is valid, and can be called as its signature says.
use Rattle.std.proofs.Common.{◌≡◌, ℕ, zero, suc, ◌+◌, ◌<◌, ◌≤◌, nat_lt, List, [], ◌∷◌, ◌++◌, length, map, take}
use Rattle.std.proofs.Common.{Option, None, Some, Bool, true, false, ◌||◌, if◌then◌else◌, refl, ap, sym, ◌∙◌, subst}
use Rattle.std.proofs.Common.{arith, slice_get}
use Rattle.std.proofs.lemmas.Bool.{false≢true}
use Rattle.std.proofs.lemmas.Bool.Decides.{nat_tests}
use Rattle.std.proofs.lemmas.Option.{none-some, same_Some}
use Rattle.std.specs.Str.{bytes_eq}
use Rattle.wg_num.specs.declared.types.Place.{Place}
use Rattle.cl_model.specs.declared.program.Root.{Root}
use Rattle.cl_model.specs.declared.program.Root.TheVariants as roots
use Rattle.cl_model.specs.declared.program.VarKind.{VarKind}
use Rattle.cl_model.specs.declared.program.VarKind.TheVariants as var_kinds
use Rattle.cl_model.specs.Lists.{Each}
use Rattle.cl_model.specs.Objects.{is_local}
use Rattle.cl_model.specs.Tree as tree
use Rattle.cl_model.specs.Tree.{Function, Program, Statements}
use Rattle.cl_model.specs.Calls.{function_at}
use Rattle.cl_model.specs.Valid.{Scope, RootIs, parameter_kinds, numbers_below, IsValidFunction}
use Rattle.cl_model.specs.Valid as valid
use Rattle.cl_tree.specs.declared.tree.Form.TheVariants as forms
use Rattle.cl_tree.specs.Syntax.{Syntax, node, Forest}
use Rattle.cl_meaning.specs.Spelling.{name_in}
use Rattle.cl_meaning.specs.declared.kind.Parameter.{Parameter}
use Rattle.cl_meaning.specs.declared.kind.Parameter.TheVariants as parameters
use Rattle.cl_meaning.specs.declared.kind.Role.TheVariants as roles
use Rattle.cl_meaning.specs.declared.kind.Yield.TheVariants as yields
use Rattle.cl_meaning.specs.Environment as environment
use Rattle.cl_meaning.specs.Environment.{Env, Variable, Array, Signature, empty_scope}
use Rattle.cl_meaning.specs.Declarations.{signature_in}
use Rattle.cl_meaning.specs.Visible.{inside, restored, left, before_labels, behind, behind_parts, in_block}
use Rattle.cl_meaning.specs.Visible.{in_definition, opened, apart, definition_of, defined_meaning}
use Rattle.cl_meaning.specs.Faults.{Asked}
use Rattle.cl_meaning.specs.Typed as typed_specs
use Rattle.cl_meaning.specs.Typed.{function, statement, Piece, Built}
use Rattle.cl_meaning.specs.Statements.{all_lines, last_piece, function_made, result_of, body_in, block_of}
use Rattle.cl_meaning.specs.Meant.{MadeParts, meant, parts_meant, make}
use Rattle.cl_check_sound.specs.Shape.{IsBlock, AreLines}
use Rattle.cl_check_sound.specs.Sound.{SoundTree, SoundParts}
use Rattle.cl_check_sound.specs.Erased.{array_of, function_of}
use Rattle.cl_check_sound.specs.Fits.{Holds, ParameterIs, ParametersAre, CalledFits, MeaningFits, Fits}
use Rattle.cl_check_sound.proofs.Grown.{extends_same, is_deep, Grown, NoLocal, Within}
use Rattle.cl_check_sound.proofs.Growing.{StatementGrows, LinesGrow, SwitchGrows, growing}
use Rattle.cl_check_sound.proofs.Naming.{MeaningScoped, Scoped}
use Rattle.cl_check_sound.proofs.Facing.{Finals, At, at_later, extends_length}
use Rattle.cl_check_sound.proofs.Lining.{one_below, RootFits, AllRoots}
use Rattle.cl_check_sound.proofs.Induction.{of_lines, block_parts}
use Rattle.cl_check_sound.proofs.Stating.{Here}
use Rattle.cl_check_sound.proofs.Validity.{LinesStated, StatementGood, LinesGood, SwitchGood, good}
use Rattle.cl_check_sound.proofs.Heads.{ParamKind, ParamKinds}
use Rattle.cl_check_sound.proofs.Owners.{OwnFits, own_fits}
use Rattle.cl_check_sound.proofs.Fronts.{Front}
use Rattle.cl_check_sound.proofs.Parts.{built_of}

-- ---- lists

pub slice_map : {A B : Type 0} (g : A → B) (xs : List A) (n : ℕ) (b : B) → slice_get (map g xs) n ≡ Some b →
    (a : A) × (slice_get xs n ≡ Some a) × (g a ≡ b)
slice_map g [] n b h = absurd (none-some b h)
slice_map g (x ∷ xs) zero b h = (x, refl, same_Some _ _ h)
slice_map g (x ∷ xs) (suc n) b h = slice_map g xs n b h

pub map_slice : {A B : Type 0} (g : A → B) (xs : List A) (n : ℕ) (a : A) → slice_get xs n ≡ Some a →
    slice_get (map g xs) n ≡ Some (g a)
map_slice g [] n a h = absurd (none-some a h)
map_slice g (x ∷ xs) zero a h = ap Some (ap g (same_Some _ _ h))
map_slice g (x ∷ xs) (suc n) a h = map_slice g xs n a h

pub slice_front : {A : Type 0} (xs ys : List A) (n : ℕ) (a : A) → slice_get xs n ≡ Some a →
    slice_get (xs ++ ys) n ≡ Some a
slice_front [] ys n a h = absurd (none-some a h)
slice_front (x ∷ xs) ys zero a h = h
slice_front (x ∷ xs) ys (suc n) a h = slice_front xs ys n a h

pub slice_within : {A : Type 0} (xs : List A) (n : ℕ) (a : A) → slice_get xs n ≡ Some a → n < length xs
slice_within [] n a h = absurd (none-some a h)
slice_within (x ∷ xs) zero a h = omega arith
slice_within (x ∷ xs) (suc n) a h = let e = slice_within xs n a h in omega arith

pub slice_there : {A : Type 0} (xs : List A) (n : ℕ) → n < length xs → (a : A) × (slice_get xs n ≡ Some a)
slice_there [] n h = absurd (omega arith)
slice_there (x ∷ xs) zero h = (x, refl)
slice_there (x ∷ xs) (suc n) h = slice_there xs n (omega arith)

pub each_slice : {A : Type 0} (Q : A → Type 0) (xs : List A) (n : ℕ) (a : A) → Each Q xs → slice_get xs n ≡ Some a → Q a
each_slice Q [] n a e h = absurd (none-some a h)
each_slice Q (x ∷ xs) zero a e h = subst Q (same_Some _ _ h) e.0
each_slice Q (x ∷ xs) (suc n) a e h = each_slice Q xs n a e.1 h

pub each_of_slices : {A : Type 0} (Q : A → Type 0) (xs : List A) → ((n : ℕ) (a : A) → slice_get xs n ≡ Some a → Q a) →
    Each Q xs
each_of_slices Q [] h = tt
each_of_slices Q (x ∷ xs) h = (h 0 x refl, each_of_slices Q xs (λ n a e. h (suc n) a e))

slice_take : {A : Type 0} (xs : List A) (m n : ℕ) (a : A) → n < m → slice_get xs n ≡ Some a →
    slice_get (take m xs) n ≡ Some a
slice_take [] m n a l h = absurd (none-some a h)
slice_take (x ∷ xs) zero n a l h = absurd (omega arith)
slice_take (x ∷ xs) (suc m) zero a l h = h
slice_take (x ∷ xs) (suc m) (suc n) a l h = slice_take xs m n a (omega arith) h

pub length_map : {A B : Type 0} (g : A → B) (xs : List A) → length (map g xs) ≡ length xs
length_map g [] = refl
length_map g (x ∷ xs) = ap suc (length_map g xs)

-- ---- parameters

params_length : (n : ℕ) (ps : List Parameter) (vs : List Variable) → ParamKinds n ps vs → length ps ≡ length vs
params_length n [] [] h = refl
params_length n (p ∷ ps) (v ∷ vs) h = ap suc (params_length (suc n) ps vs h.1)
params_length n [] (v ∷ vs) h = absurd h
params_length n (p ∷ ps) [] h = absurd h

param_root : (n : ℕ) (p : Parameter) (v : VarKind) → ParamKind n p v → (s : _) (e : _) (r : _) →
    v ≡ var_kinds.Pointer s e r → r ≡ roots.Param n
param_root n (parameters.Number t) (var_kinds.Scalar u) h s e r q = absurd (apart q)
  where
    is_scalar : VarKind → Bool
    is_scalar (var_kinds.Scalar t) = true
    is_scalar v = false

    apart : var_kinds.Scalar u ≡ var_kinds.Pointer s e r → ⊥
    apart q = false≢true (sym (ap is_scalar q))
param_root n (parameters.Pointer s' e' c) (var_kinds.Pointer s'' e'' r') h s e r q = sym (ap root_in q) ∙ h.2
  where
    root_in : VarKind → Root
    root_in (var_kinds.Pointer s e r) = r
    root_in v = roots.Param n
param_root n (parameters.Number t) (var_kinds.Pointer s' e' r') h s e r q = absurd h
param_root n (parameters.Pointer s' e' c) (var_kinds.Scalar u) h s e r q = absurd h
param_root n parameters.Outside v h s e r q = absurd h

-- the kind of the parameter with a number
param_at : (n : ℕ) (ps : List Parameter) (vs : List Variable) (x : ℕ) (v : Variable) → ParamKinds n ps vs →
    slice_get vs x ≡ Some v → (p : Parameter) × ParamKind (n + x) p v.kind
param_at n [] [] x v h e = absurd (none-some v e)
param_at n (p ∷ ps) (w ∷ vs) zero v h e =
    (p, subst (λ z. ParamKind z p v.kind) (omega arith) (subst (λ z. ParamKind n p z.kind) (same_Some _ _ e) h.0))
param_at n (p ∷ ps) (w ∷ vs) (suc x) v h e = let q =
    param_at (suc n) ps vs x v h.1 e in (q.0, subst (λ z. ParamKind z q.0 v.kind) (omega arith) q.1)
param_at n [] (w ∷ vs) x v h e = absurd h
param_at n (p ∷ ps) [] x v h e = absurd h

parameter_is : (n : ℕ) (p : Parameter) (v : VarKind) → ParamKind n p v → ParameterIs p v
parameter_is n (parameters.Number t) (var_kinds.Scalar u) h = h
parameter_is n (parameters.Pointer s e c) (var_kinds.Pointer s' e' r) h = (h.0, h.1)
parameter_is n (parameters.Number t) (var_kinds.Pointer s e r) h = absurd h
parameter_is n (parameters.Pointer s e c) (var_kinds.Scalar u) h = absurd h
parameter_is n parameters.Outside v h = absurd h

-- the first variables are the parameters
parameters_are : (n : ℕ) (ps : List Parameter) (vs zs : List Variable) → ParamKinds n ps vs →
    ParametersAre ps (take (length ps) (map (λ v. v.kind) (vs ++ zs)))
parameters_are n [] [] zs h = none_are (map (λ v. v.kind) zs)
  where
    none_are : (vs : List VarKind) → ParametersAre [] (take 0 vs)
    none_are [] = tt
    none_are (v ∷ vs) = tt
parameters_are n (p ∷ ps) (v ∷ vs) zs h = (parameter_is n p v.kind h.0, parameters_are (suc n) ps vs zs h.1)
parameters_are n [] (v ∷ vs) zs h = absurd h
parameters_are n (p ∷ ps) [] zs h = absurd h

-- ---- what a function is made into

-- what is said of a function before anything is read of it
abbrev pub bare : List ℕ → Signature
bare w = record { name = name_in w; kernel = false; result = yields.Nothing; parameters = [] }

-- in the block
abbrev pub body_env : Env → Env
body_env eb = record eb { in_body = false; labels = None }

pub body_is : (eb : Env) → eb.in_body ≡ true → in_block eb ≡ body_env eb
body_is eb h = ap (λ b. if b then record eb { in_body = false; labels = None } else opened (apart eb)) h

abbrev pub lines_in : Syntax → Forest
lines_in (node form w f l parts) = parts

abbrev pub ending : Env → Syntax → Env
ending eb block = behind_parts (body_env eb) forms.BlockNode true (lines_in block)

abbrev pub made_lines : Env → List Place → Syntax → MadeParts
made_lines eb sb block = parts_meant (body_env eb) forms.BlockNode true sb (lines_in block)

abbrev pub typed_of : Signature → Env → List Place → Syntax → typed_specs.Function
typed_of g eb sb block = record {
  name = g.name;
  parameters = length g.parameters;
  result = result_of g.result;
  variables = (ending eb block).variables;
  arrays = (ending eb block).arrays;
  body = all_lines (made_lines eb sb block).pieces;
  sizes = eb.owner.sizes;
}

block_made : (eb : Env) (sb : List Place) (block : Syntax) → IsBlock block → eb.in_body ≡ true →
    built_of (meant eb sb block) ≡ record {
      what = statement (tree.Block (all_lines (made_lines eb sb block).pieces));
      sites = (made_lines eb sb block).sites;
    }
unfolding meant make inside
block_made eb sb (node forms.BlockNode w f l parts) h e =
    ap (λ z. record {
      what = statement (tree.Block (all_lines (parts_meant z forms.BlockNode true sb parts).pieces));
      sites = (parts_meant z forms.BlockNode true sb parts).sites;
    }) (body_is eb e)
block_made eb sb block h e = absurd h

pub block_ends : (eb : Env) (block : Syntax) → IsBlock block → eb.in_body ≡ true →
    behind eb block ≡ before_labels eb (ending eb block)
unfolding behind restored left inside
block_ends eb (node forms.BlockNode w f l parts) h e =
    ap (λ z. before_labels eb (behind_parts z forms.BlockNode true parts)) (body_is eb e)
block_ends eb block h e = absurd h

block_sound : (asked : Asked) (eb : Env) (block : Syntax) → IsBlock block → eb.in_body ≡ true →
    SoundTree asked eb roles.Other block → AreLines (lines_in block) ×
    SoundParts asked (body_env eb) forms.BlockNode None (lines_in block)
block_sound asked eb (node forms.BlockNode w f l parts) h e s = (
  h,
  subst (λ z. SoundParts asked z forms.BlockNode None parts) (body_is eb e)
      (block_parts asked eb roles.Other w f l parts s),
)
block_sound asked eb block h e s = absurd h

body_of_last : (ps : List Piece) (p : Piece) (b : Statements) → last_piece ps ≡ Some p →
    p.what ≡ statement (tree.Block b) → body_in ps ≡ b
body_of_last [] p b e h = absurd (none-some p e)
body_of_last (q ∷ []) p b e h = ap (λ (z : Piece). block_of z.what) (same_Some _ _ e) ∙ ap block_of h
body_of_last (q ∷ (r ∷ rs)) p b e h = body_of_last (r ∷ rs) p b e h

pub defined_scoped : (o : Option (ℕ × Bool)) → MeaningScoped [] (defined_meaning o)
defined_scoped None = tt
defined_scoped (Some (n, true)) = tt
defined_scoped (Some (n, false)) = tt

fits_rootkind : (P : Program) (f : Function) (n : ℕ) (k : VarKind) → RootFits P f k →
    (n < f.parameters → (s : _) (e : _) (r : _) → k ≡ var_kinds.Pointer s e r → r ≡ roots.Param n) →
    valid.KindFits P f n k
fits_rootkind P f n (var_kinds.Scalar t) h g = tt
fits_rootkind P f n (var_kinds.Pointer s e r) h g = ((λ l. g l s e r refl), (λ l. h))

-- a parameter that is a pointer leads to itself
param_fits : (P : Program) (f : Function) (n : ℕ) (p : Parameter) (k : VarKind) → ParamKind n p k →
    slice_get (parameter_kinds f) n ≡ Some k → RootFits P f k
param_fits P f n (parameters.Number t) (var_kinds.Scalar u) h e = tt
param_fits P f n (parameters.Pointer s e' c) (var_kinds.Pointer s' e'' r) h e =
    subst (λ z. RootIs P f z s' e'') (sym h.2) (r, e)
param_fits P f n (parameters.Number t) (var_kinds.Pointer s' e' r') h e = absurd h
param_fits P f n (parameters.Pointer s' e' c) (var_kinds.Scalar u) h e = absurd h
param_fits P f n parameters.Outside k h e = absurd h

abbrev flag : Bool → ℕ
flag b = if b then 1 else 0

one_when : (x n : ℕ) → (x < n → one_below x n ≡ 1) × (n ≤ x → one_below x n ≡ 0)
one_when x n = by (nat_lt x n) refl
  where
    by : (b : Bool) → nat_lt x n ≡ b → (x < n → flag b ≡ 1) × (n ≤ x → flag b ≡ 0)
    by true e = ((λ h. refl), (λ h. absurd (grind (arith, nat_tests))))
    by false e = ((λ h. absurd (grind (arith, nat_tests))), (λ h. refl))

module _ (asked : Asked) (u : Env) (sites : List Place) (w : List ℕ) (f' l : ℕ) (parts : Forest)
    (fr : Front asked (in_definition u (name_in w)) sites true (bare w) parts) where
  abbrev e0 : Env
  e0 = in_definition u (name_in w)

  abbrev pub sg : Signature
  sg = signature_in w parts

  abbrev pub typed : typed_specs.Function
  typed = typed_of sg fr.eb fr.sb fr.block

  pub marked : fr.eb.in_body ≡ true
  marked = ap (λ (z : Env). z.in_body) fr.entered.frame

  -- what it is made into
  pub function_is : built_of (meant u sites (node forms.FunctionNode w f' l parts)) ≡ record {
    what = function typed;
    sites = (made_lines fr.eb fr.sb fr.block).sites;
  }
  unfolding meant make inside
  function_is =
      let bm = block_made fr.eb fr.sb fr.block fr.shape marked in
      let be = fr.inner ∙ block_ends fr.eb fr.block fr.shape marked in
      let ps = parts_meant e0 forms.FunctionNode true sites parts in
      ap (λ z. function_made z ps.sites sg ps.pieces) be
      ∙
      (ap (λ z. record {
        what = function (record {
          name = sg.name;
          parameters = length sg.parameters;
          result = result_of sg.result;
          variables = (ending fr.eb fr.block).variables;
          arrays = (ending fr.eb fr.block).arrays;
          body = z;
          sizes = fr.eb.owner.sizes;
        });
        sites = ps.sites;
      })
      (body_of_last ps.pieces (meant fr.eb fr.sb fr.block).piece (all_lines (made_lines fr.eb fr.sb fr.block).pieces)
      fr.last (ap (λ (z : Built). z.what) bm))
      ∙ ap (λ z. record { what = function typed; sites = z }) (fr.made ∙ ap (λ (z : Built). z.sites) bm))

  pub within : Within (body_env fr.eb)
  within = record { deep = fr.entered.deep; in_block = refl }

  pub sound : AreLines (lines_in fr.block) × SoundParts asked (body_env fr.eb) forms.BlockNode None (lines_in fr.block)
  sound = block_sound asked fr.eb fr.block fr.shape marked fr.sound

  pub grown : Grown (body_env fr.eb) (ending fr.eb fr.block)
  grown = of_lines asked StatementGrows LinesGrow SwitchGrows (growing asked) (body_env fr.eb) fr.sb None
      (lines_in fr.block) sound.0 sound.1 within true

  new_are : fr.eb.variables ≡ fr.entered.new
  new_are = fr.entered.variables

  count : length sg.parameters ≡ length fr.eb.variables
  count = params_length 0 sg.parameters fr.entered.new fr.entered.kinds ∙ ap length (sym new_are)

  abbrev pub plain : Function
  plain = function_of typed

  -- ---- as it is called

  no_arrays : (env : Env) → env.arrays ≡ [] → NoLocal env
  no_arrays env e k = subst (λ z. Each (λ (a : Array). is_local a.space ≡ false) z) (sym e) tt

  pub called_fits : (P : Program) (n : ℕ) → n < length P.functions → function_at P n ≡ plain → sg.kernel ≡ false →
      CalledFits P n sg
  called_fits P n lt at k =
      let ek : fr.eb.owner.kernel ≡ false = fr.kernel refl ∙ k in
      let ar : fr.eb.arrays ≡ [] = ap (λ (z : Env). z.arrays) fr.entered.frame in
      let nl = grown.locals (no_arrays (body_env fr.eb) ar) (ap (λ (z : Env). z.owner.kernel) grown.frame ∙ ek) in
      record {
        callable = record {
          within = lt;
          same_result = ap (λ (z : Function). z.result) at;
          no_local = λ m array h. (let q = slice_map array_of (ending fr.eb fr.block).arrays m array
              (subst (λ (z : Function). slice_get z.arrays m ≡ Some array) at h) in
              subst (λ (z : tree.Array). is_local z.space ≡ false) q.2
              (each_slice (λ (a : Array). is_local a.space ≡ false) (ending fr.eb fr.block).arrays m q.0 nl q.1));
        };
        parameters = subst (λ (z : Function). ParametersAre sg.parameters (parameter_kinds z)) (sym at)
            (subst (λ z. ParametersAre sg.parameters (take (length sg.parameters) (map (λ v. v.kind) z)))
            (sym (grown.variables.1 ∙ ap (λ z. z ++ grown.variables.0) new_are))
            (parameters_are 0 sg.parameters fr.entered.new grown.variables.0 fr.entered.kinds));
        inside = fr.entered.inside';
      }

  -- ---- as it is

  module _ (P : Program) (us : (s : environment.Scope) × (u.scopes ≡ s ∷ [])) (fits : Fits P plain asked.missing u)
      (seen : Scoped [] u) (known : (q : List ℕ) → bytes_eq (name_in w) q ≡ true →
      MeaningFits P plain asked.missing u.functions q (defined_meaning (definition_of u (name_in w)))) where
    at_first : At P plain asked.missing [] e0
    at_first = record { fits = fits; seen = seen; below = tt }

    own : OwnFits P plain asked.missing e0
    own = own_fits P plain asked.missing e0 u (name_in w) refl (definition_of u (name_in w)) refl refl known

    -- a variable of the parameters, in the function
    holds_param : (n : ℕ) (v : Variable) → slice_get fr.eb.variables n ≡ Some v → Holds plain n v.kind ×
        RootFits P plain v.kind
    holds_param n v h =
        let x = map_slice (λ (z : Variable). z.kind) (ending fr.eb fr.block).variables n v
        (subst (λ z. slice_get z n ≡ Some v) (sym grown.variables.1)
        (slice_front fr.eb.variables grown.variables.0 n v h)) in
        let q = param_at 0 sg.parameters fr.entered.new n v fr.entered.kinds
        (subst (λ z. slice_get z n ≡ Some v) new_are h) in
        let lt = slice_within fr.eb.variables n v h in
        let c = count in (
          x,
          param_fits P plain n q.0 v.kind (subst (λ z. ParamKind z q.0 v.kind) (omega arith) q.1)
              (slice_take plain.variables (length sg.parameters) n v.kind (omega arith) x),
        )

    at_body : At P plain asked.missing (numbers_below (length fr.eb.variables)) (body_env fr.eb)
    at_body = at_later P plain asked.missing (numbers_below (length fr.eb.variables)) fr.eb (body_env fr.eb) refl refl
        (omega arith) (fr.entered.at P plain asked.missing (subst (λ z. is_deep (z ++ empty_scope ∷ []) ≡ true)
        (sym us.1) refl) own holds_param at_first)

    pub here : Here P plain asked.missing (numbers_below (length fr.eb.variables)) (body_env fr.eb)
    here = record { within = within; at = at_body; result = ap result_of (sym fr.entered.result) }

    pub finals : Finals plain (ending fr.eb fr.block).variables (ending fr.eb fr.block).arrays
    finals = record { variables = refl; arrays = refl }

    body_stated : LinesStated P plain (numbers_below (length fr.eb.variables)) (body_env fr.eb) typed.body
        (ending fr.eb fr.block)
    body_stated =
        (of_lines asked (StatementGood P plain asked (ending fr.eb fr.block).variables (ending fr.eb fr.block).arrays
        finals) (LinesGood P plain asked (ending fr.eb fr.block).variables (ending fr.eb fr.block).arrays
        finals) (SwitchGood P plain asked (ending fr.eb fr.block).variables (ending fr.eb fr.block).arrays
        finals)
        (good P plain asked (ending fr.eb fr.block).variables (ending fr.eb fr.block).arrays finals) (body_env fr.eb)
        fr.sb None (lines_in fr.block) sound.0 sound.1).2 true (numbers_below (length fr.eb.variables)) here
        (extends_same (ending fr.eb fr.block).variables, extends_same (ending fr.eb fr.block).arrays)

    all_roots : AllRoots P plain (ending fr.eb fr.block).variables
    all_roots = body_stated.roots (each_of_slices (λ (v : Variable). RootFits P plain v.kind) fr.eb.variables
        (λ n v h. (holds_param n v h).1))

    variable_fits : (x : ℕ) (kind : VarKind) → slice_get plain.variables x ≡ Some kind → valid.KindFits P plain x kind
    variable_fits x kind h =
        let q = slice_map (λ (v : Variable). v.kind) (ending fr.eb fr.block).variables x kind h in
        fits_rootkind P plain x kind (subst (RootFits P plain) q.2
        (each_slice (λ (v : Variable). RootFits P plain v.kind) (ending fr.eb fr.block).variables x q.0
        all_roots q.1))
        (λ lt s e r eq.
        (let c = count in
        let v = slice_there fr.eb.variables x (omega arith) in
        let y = (holds_param x v.0 v.1).0 in
        let pk = param_at 0 sg.parameters fr.entered.new x v.0 fr.entered.kinds
        (subst (λ z. slice_get z x ≡ Some v.0) new_are v.1) in
        param_root x pk.0 v.0.kind (subst (λ z. ParamKind z pk.0 v.0.kind) (omega arith) pk.1) s e r
        (same_Some _ _ (sym y ∙ h) ∙ eq)))

    pub function_valid : u.in_loop ≡ false → u.in_switch ≡ false → IsValidFunction P plain
    function_valid il is =
        let c = count in
        let lm = length_map (λ (v : Variable). v.kind) (ending fr.eb fr.block).variables in
        let lf : (body_env fr.eb).in_loop ≡ false = ap (λ (z : Env). z.in_loop) fr.entered.frame ∙ il in
        let le : ((body_env fr.eb).in_loop || (body_env fr.eb).in_switch) ≡ false =
        ap (λ (z : Env). z.in_loop || z.in_switch) fr.entered.frame ∙ (ap (λ z. z || u.in_switch) il ∙ is) in
        let gl = extends_length fr.eb.variables (ending fr.eb fr.block).variables grown.variables in
        record {
          parameters = omega arith;
          kinds = variable_fits;
          types = body_stated.types';
          scopes = subst (λ z. valid.IsScopedList (numbers_below z) typed.body) (sym c) body_stated.scoped;
          declared = λ x lo hi. (let d = body_stated.declared x in
              let p = (one_when x (length fr.eb.variables)).1 (omega arith) in
              let q = (one_when x (length (ending fr.eb fr.block).variables)).0 (omega arith) in omega arith);
          undeclared = λ x lo. (let d = body_stated.declared x in
              let p = (one_when x (length fr.eb.variables)).0 (omega arith) in
              let q = (one_when x (length (ending fr.eb fr.block).variables)).0 (omega arith) in omega arith);
          exits = body_stated.exits false false lf le;
        }
