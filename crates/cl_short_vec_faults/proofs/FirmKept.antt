-- What a scope declares, prototypes aside, it declares behind any tree.
use Rattle.std.proofs.Common.{◌≡◌, ℕ, nat_eq, List, [], ◌∷◌, ◌++◌, length, take, Option, None, Some, Bool, true, false}
use Rattle.std.proofs.Common.{if◌then◌else◌, refl, ap, sym, ◌∙◌, subst}
use Rattle.std.proofs.lemmas.Bool.{false≢true}
use Rattle.std.specs.Str.{bytes_eq}
use Rattle.cl_model.specs.declared.program.Space.{Space}
use Rattle.cl_model.specs.declared.program.Space.TheVariants as spaces
use Rattle.cl_tree.specs.declared.tree.Form.{Form}
use Rattle.cl_tree.specs.declared.tree.Form.TheVariants as forms
use Rattle.cl_tree.specs.Syntax.{Syntax, node, Forest, none, more}
use Rattle.cl_meaning.specs.Spelling.{name_in}
use Rattle.cl_meaning.specs.declared.types.Declared.{Declared}
use Rattle.cl_meaning.specs.declared.kind.Kind.{Kind}
use Rattle.cl_meaning.specs.declared.kind.Entry.{Entry}
use Rattle.cl_meaning.specs.declared.kind.Meaning.{Meaning}
use Rattle.cl_meaning.specs.Environment.{Env, Scope, Array, Labels, at_unit, empty_scope, into_last, in_last}
use Rattle.cl_meaning.specs.Environment.{is_firm, is_declared, declare}
use Rattle.cl_meaning.specs.Declarations.{Declarator, declarator_in, form_of, last_kind, with_declarator, with_array}
use Rattle.cl_meaning.specs.Declarations.{with_scalar, with_elements, with_parameter, kept_in, dims_of, or_none, firm}
use Rattle.cl_meaning.specs.Declarations.{first_type, second_star}
use Rattle.cl_meaning.specs.Visible.{inside, later, behind, behind_parts, kinds_of, kind_of, left, restored, announced}
use Rattle.cl_meaning.specs.Visible.{behind_part, behind_prototype_part, behind_type, behind_value, behind_label}
use Rattle.cl_meaning.specs.Visible.{behind_result, with_own, named, with_prototype, opened, apart, definition_of}
use Rattle.cl_meaning.specs.Visible.{defined_meaning}
use Rattle.cl_check_sound.proofs.Constants.{OneScope}
use Rattle.cl_check_sound.proofs.Grown.{SameOuter}
use Rattle.cl_short_vec_faults.proofs.OuterKept.{behind_outer}
use Rattle.cl_short_vec_faults.proofs.NamedBeside.{same_name}

-- each scope declares what it declared, and there may be more
abbrev pub FirmIn : List Scope → List Scope → Type 0
FirmIn [] ts = Unit {0}
FirmIn (s ∷ ss) (t ∷ ts) = ((q : List ℕ) → is_firm (s q) ≡ true → is_firm (t q) ≡ true) × FirmIn ss ts
FirmIn (s ∷ ss) [] = ⊥

firm_same : (ss : List Scope) → FirmIn ss ss
firm_same [] = tt
firm_same (s ∷ ss) = ((λ q h. h), firm_same ss)

firm_then : (ss ts us : List Scope) → FirmIn ss ts → FirmIn ts us → FirmIn ss us
firm_then [] ts us h k = tt
firm_then (s ∷ ss) (t ∷ ts) (u ∷ us) h k = ((λ q e. k.0 q (h.0 q e)), firm_then ss ts us h.1 k.1)
firm_then (s ∷ ss) [] us h k = absurd h
firm_then (s ∷ ss) (t ∷ ts) [] h k = absurd k

firm_more : (ss ts : List Scope) → FirmIn ss (ss ++ ts)
firm_more [] ts = tt
firm_more (s ∷ ss) ts = ((λ q h. h), firm_more ss ts)

firm_take : (ss ts : List Scope) → FirmIn ss ts → FirmIn ss (take (length ss) ts)
firm_take [] ts h = tt
firm_take (s ∷ ss) (t ∷ ts) h = (h.0, firm_take ss ts h.1)
firm_take (s ∷ ss) [] h = absurd h

-- one more name, which is firm or was not
firm_into : (ss : List Scope) (name : List ℕ) (e : Entry) → (is_firm (in_last ss name) ≡ true → e.firm ≡ true) →
    FirmIn ss (into_last ss name e)
firm_into [] name e g = tt
firm_into (s ∷ []) name e g = ((λ q h. by q (bytes_eq name q) refl h), tt)
  where
    by : (q : List ℕ) (b : Bool) → bytes_eq name q ≡ b → is_firm (s q) ≡ true →
        is_firm (if b then Some e else s q) ≡ true
    by q true t h = g (ap (λ z. is_firm (s z)) (same_name name q t) ∙ h)
    by q false t h = h
firm_into (s ∷ (r ∷ rs)) name e g = ((λ q h. h), firm_into (r ∷ rs) name e g)

firm_named : (ss : List Scope) (name : List ℕ) (m : Meaning) → FirmIn ss (into_last ss name (firm m))
firm_named ss name m = firm_into ss name (firm m) (λ h. refl)

-- ---- names that are declared

array_firm : (env : Env) (a : Array) (bytes : List ℕ) (m : Meaning) → FirmIn env.scopes
    (with_array env a bytes m).scopes
array_firm env a bytes m = by (at_unit env)
  where
    by : (b : Bool) → FirmIn env.scopes (if b
        then record env {
          tables = env.tables ++ record { array = a; bytes = bytes } ∷ [];
          scopes = into_last env.scopes a.name (firm m);
        }
        else record env { arrays = env.arrays ++ a ∷ []; scopes = into_last env.scopes a.name (firm m) }).scopes
    by true = firm_named env.scopes a.name m
    by false = firm_named env.scopes a.name m

scalar_firm : (env : Env) (d : Declared) (x : Declarator) (s : Space) → FirmIn env.scopes (with_scalar env d x s).scopes
scalar_firm env d x spaces.Private = firm_named env.scopes x.name _
scalar_firm env d x spaces.Global = array_firm env _ _ _
scalar_firm env d x spaces.Constant = array_firm env _ _ _
scalar_firm env d x spaces.Local = array_firm env _ _ _

declarator_firm : (env : Env) (o : Option Declared) (x : Declarator) (k : Option Kind) →
    FirmIn env.scopes (with_declarator env o x k).scopes
declarator_firm env None x k = firm_same env.scopes
declarator_firm env (Some d) x k = by x.star
  where
    plain : (b : Bool) → FirmIn env.scopes (if b then with_scalar env d (record x { star = None }) (kept_in env d) else
        with_elements env d (record x { star = None }) (kept_in env d) (or_none (dims_of x))).scopes
    plain true = scalar_firm env d (record x { star = None }) (kept_in env d)
    plain false = array_firm env _ _ _

    by : (star : Option Bool) → FirmIn env.scopes (with_declarator env (Some d) (record x { star = star }) k).scopes
    by (Some fixed) = firm_named env.scopes x.name _
    by None = plain (nat_eq x.dimensions 0)

parameter_firm : (env : Env) (name : List ℕ) (token : ℕ) (o : Option Declared) (star : Option Bool) →
    FirmIn env.scopes (with_parameter env name token o star).scopes
parameter_firm env name token None star = firm_same env.scopes
parameter_firm env name token (Some d) None = firm_named env.scopes name _
parameter_firm env name token (Some d) (Some fixed) = firm_named env.scopes name _

-- a prototype declares a name that nothing declares yet
free_last : (env : Env) (name : List ℕ) → announced env name ≡ true → (o : Option Entry) →
    in_last env.scopes name ≡ o → is_firm o ≡ true → ⊥
free_last env name a None e h = false≢true h
free_last env name a (Some x) e h =
    let n : announced env name ≡ false = rw e refl in
    false≢true (sym n ∙ a)

prototype_firm : (env : Env) (name : List ℕ) → FirmIn env.scopes (with_prototype env name).scopes
prototype_firm env name = by (announced env name) refl
  where
    by : (b : Bool) → announced env name ≡ b → FirmIn env.scopes (if b then declare env name
        (record { meaning = defined_meaning (definition_of env name); firm = false }) else env).scopes
    by true e = firm_into env.scopes name _ (λ h. absurd (free_last env name e (in_last env.scopes name) refl h))
    by false e = firm_same env.scopes

-- ---- on the way in, from part to part and on the way out

block_firm : (env : Env) → FirmIn env.scopes (inside env forms.BlockNode []).scopes
unfolding inside
block_firm env = by env.in_body
  where
    by : (b : Bool) →
        FirmIn env.scopes (if b then record env { in_body = false; labels = None } else opened (apart env)).scopes
    by true = firm_same env.scopes
    by false = firm_more env.scopes (empty_scope ∷ [])

inside_firm : (form : Form) (env : Env) (w : List ℕ) → FirmIn env.scopes (inside env form w).scopes
unfolding inside
inside_firm forms.BlockNode env w = block_firm env
inside_firm forms.ForNode env w = firm_more env.scopes (empty_scope ∷ [])
inside_firm _ env w = firm_same env.scopes

part_firm : (form : Form) (env : Env) (p : Syntax) → FirmIn env.scopes (behind_part env form p).scopes
part_firm forms.ResultNode env p = firm_then env.scopes (with_own (behind_result env p)).scopes
    (named (behind_result env p)).scopes (firm_more env.scopes _) (firm_more (with_own (behind_result env p)).scopes _)
part_firm forms.HeadNode env p = firm_same env.scopes
part_firm forms.ParamsNode env p = firm_same env.scopes
part_firm _ env p = firm_same env.scopes

prototype_part : (form : Form) (env : Env) (p : Syntax) → FirmIn env.scopes (behind_prototype_part env form p).scopes
prototype_part forms.ResultNode env p = firm_more env.scopes (empty_scope ∷ [])
prototype_part forms.HeadNode env p = firm_same env.scopes
prototype_part forms.ParamsNode env p = firm_same env.scopes
prototype_part _ env p = firm_same env.scopes

type_firm : (form : Form) (env : Env) (p : Syntax) → FirmIn env.scopes (behind_type env form p).scopes
type_firm forms.TypeNode env p = firm_same env.scopes
type_firm _ env p = firm_same env.scopes

value_firm : (o : Option Labels) (env : Env) (k : Option Kind) → FirmIn env.scopes (behind_value env o k).scopes
value_firm None env k = firm_same env.scopes
value_firm (Some l) env k = firm_same env.scopes

label_firm : (front : Bool) (env : Env) (p : Syntax) → FirmIn env.scopes (behind_label env front p).scopes
label_firm true env p = firm_same env.scopes
label_firm false env p = firm_same env.scopes

later_firm : (form : Form) (env : Env) (front : Bool) (p : Syntax) (k : Option Kind) →
    FirmIn env.scopes (later env form front p k).scopes
unfolding later
later_firm forms.FunctionNode env front p k = part_firm (form_of p) env p
later_firm forms.PrototypeNode env front p k = prototype_part (form_of p) env p
later_firm forms.DeclareNode env front p k = type_firm (form_of p) env p
later_firm forms.SwitchNode env front p k = value_firm env.labels env k
later_firm forms.CaseNode env front p k = label_firm front env p
later_firm _ env front p k = firm_same env.scopes

restored_scopes : (form : Form) (env inner : Env) →
    (restored form env inner).scopes ≡ take (length env.scopes) inner.scopes
unfolding restored
restored_scopes forms.FunctionNode env inner = refl
restored_scopes forms.PrototypeNode env inner = refl
restored_scopes forms.BlockNode env inner = refl
restored_scopes forms.IfNode env inner = refl
restored_scopes forms.WhileNode env inner = refl
restored_scopes forms.DoNode env inner = refl
restored_scopes forms.ForNode env inner = refl
restored_scopes forms.SwitchNode env inner = refl
restored_scopes forms.CaseNode env inner = refl
restored_scopes forms.DefaultNode env inner = refl
restored_scopes _ env inner = refl

left_firm : (form : Form) (env inner : Env) (w : List ℕ) (f l : ℕ) (parts : Forest) (ks : List (Option Kind)) →
    FirmIn env.scopes (left env inner form w f l parts ks).scopes
unfolding left
left_firm forms.FunctionNode env inner w f l parts ks = firm_named env.scopes (name_in w) _
left_firm forms.PrototypeNode env inner w f l parts ks = prototype_firm env (name_in w)
left_firm forms.ParamNode env inner w f l parts ks =
    parameter_firm env (name_in w) l (first_type parts) (second_star parts)
left_firm forms.DeclaratorNode env inner w f l parts ks =
    declarator_firm env env.declared (declarator_in w f parts) (last_kind ks)
left_firm forms.CaseNode env inner w f l parts ks = firm_same env.scopes
left_firm forms.DefaultNode env inner w f l parts ks = firm_same env.scopes
left_firm _ env inner w f l parts ks = firm_same env.scopes

-- ---- through a tree

mutual
  unfolding behind behind_parts

  behind_firm : (t : Syntax) (env : Env) → FirmIn env.scopes (behind env t).scopes
  behind_firm (node form w f l parts) env =
      let inner = behind_parts (inside env form w) form true parts in
      let a = firm_then env.scopes (inside env form w).scopes inner.scopes (inside_firm form env w)
      (parts_firm parts form true (inside env form w)) in
      let b = subst (FirmIn env.scopes) (sym (restored_scopes form env inner)) (firm_take env.scopes inner.scopes a) in
      firm_then env.scopes (restored form env inner).scopes (behind env (node form w f l parts)).scopes b
      (left_firm form (restored form env inner) inner w f l parts (kinds_of (inside env form w) form true parts))

  parts_firm : (parts : Forest) (form : Form) (front : Bool) (env : Env) →
      FirmIn env.scopes (behind_parts env form front parts).scopes
  parts_firm none form front env = firm_same env.scopes
  parts_firm (more p ps) form front env =
      let m = behind env p in
      let n = later m form front p (kind_of env p) in
      firm_then env.scopes n.scopes (behind_parts n form false ps).scopes
      (firm_then env.scopes m.scopes n.scopes (behind_firm p env) (later_firm form m front p (kind_of env p)))
      (parts_firm ps form false n)

-- ---- in the unit

one_outer : (s : Scope) (ts : List Scope) → SameOuter (s ∷ []) ts → (t : Scope) × (ts ≡ t ∷ [])
one_outer s (t ∷ []) h = (t, refl)
one_outer s [] h = absurd h
one_outer s (t ∷ (u ∷ us)) h = absurd h

-- behind an item there is one scope as well
pub behind_one : (env : Env) (t : Syntax) → OneScope env → OneScope (behind env t)
behind_one env t (s, e) =
    one_outer s (behind env t).scopes (subst (λ z. SameOuter z (behind env t).scopes) e (behind_outer t env))

last_firm : (s t : Scope) (ss ts : List Scope) (q : List ℕ) → ss ≡ s ∷ [] → ts ≡ t ∷ [] → FirmIn ss ts →
    is_firm (in_last ss q) ≡ true → is_firm (in_last ts q) ≡ true
last_firm s t ss ts q e g h k =
    let h' : FirmIn (s ∷ []) (t ∷ []) =
    subst (λ z. FirmIn z (t ∷ [])) e (subst (FirmIn ss) g h) in
    ap (λ z. is_firm (in_last z q)) g ∙ h'.0 q (sym (ap (λ z. is_firm (in_last z q)) e) ∙ k)

-- which declares what it declared
pub behind_declared : (env : Env) (t : Syntax) (q : List ℕ) → OneScope env → is_declared env q ≡ true →
    is_declared (behind env t) q ≡ true
behind_declared env t q (s, e) h =
    let (r, g) = behind_one env t (s, e) in
    last_firm s r env.scopes (behind env t).scopes q e g (behind_firm t env) h
