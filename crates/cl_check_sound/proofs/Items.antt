-- What the items of a unit leave: a function and a prototype leave a name.
use Rattle.std.proofs.Common.{◌≡◌, ℕ, suc, ◌+◌, List, [], ◌∷◌, ◌++◌, length, take, Option, None, Some, Bool, true}
use Rattle.std.proofs.Common.{false, ◌||◌, if◌then◌else◌, refl, ap, sym, ◌∙◌, subst, inl, inr, ◌⊎◌, arith, slice_get}
use Rattle.std.proofs.lemmas.Bool.{false≢true}
use Rattle.std.proofs.lemmas.Option.{none-some}
use Rattle.std.proofs.lemmas.Slice.Eq.{bytes_eq-Decides}
use Rattle.std.specs.Str.{bytes_eq}
use Rattle.wg_num.specs.declared.types.Place.{Place}
use Rattle.cl_model.specs.Lists.{Each}
use Rattle.cl_model.specs.Tree.{Function, Program}
use Rattle.cl_tree.specs.declared.tree.Form.TheVariants as forms
use Rattle.cl_tree.specs.Syntax.{Syntax, node, Forest, none, more}
use Rattle.cl_meaning.specs.Spelling.{name_in}
use Rattle.cl_meaning.specs.declared.fault.Fault.TheVariants as faults
use Rattle.cl_meaning.specs.declared.kind.Entry.{Entry}
use Rattle.cl_meaning.specs.declared.kind.Role.{Role}
use Rattle.cl_meaning.specs.Environment as environment
use Rattle.cl_meaning.specs.Environment.{Env, Signature, into_last, in_last, is_firm, is_declared}
use Rattle.cl_meaning.specs.Declarations.{signature_in, with_part, with_parts, form_of, firm}
use Rattle.cl_meaning.specs.Visible.{inside, restored, left, before_labels, without_variables, behind, visible_at}
use Rattle.cl_meaning.specs.Visible.{in_definition, in_prototype, with_function, with_prototype, announced}
use Rattle.cl_meaning.specs.Visible.{definition_from, definition_of, defined_meaning}
use Rattle.cl_meaning.specs.Faults.{Asked, is_called, signature_of, prototype_misfits, is_known_name}
use Rattle.cl_check_sound.specs.Sound.{SoundTree}
use Rattle.cl_check_sound.specs.Fits.{CalledFits, MeaningFits}
use Rattle.cl_check_sound.proofs.Cases.{neither_first}
use Rattle.cl_check_sound.proofs.Grown.{outer_whole}
use Rattle.cl_check_sound.proofs.Owners.{definition_at}
use Rattle.cl_check_sound.proofs.Fronts.{Front, Fore}
use Rattle.cl_check_sound.proofs.Functions.{bare, ending, block_ends, marked, grown}
use Rattle.cl_check_sound.proofs.Constants as constants_proofs
use Rattle.cl_check_sound.proofs.Constants.{OneScope, UnitGrown, firm_named, one_named}
use Rattle.cl_check_sound.proofs.Grown.{extends_same}

-- ---- names

pub same_bytes : (xs ys : List ℕ) → bytes_eq xs ys ≡ true → xs ≡ ys
same_bytes xs ys h = (bytes_eq-Decides xs ys).0 h

pub bytes_same : (xs : List ℕ) → bytes_eq xs xs ≡ true
bytes_same xs = (bytes_eq-Decides xs xs).1 refl

-- the parts of a function do not change its name
name_part : (g : Signature) (form : _) (p : Syntax) → (with_part g form p).name ≡ g.name
name_part g forms.HeadNode p = refl
name_part g forms.ResultNode p = refl
name_part g forms.ParamsNode p = refl
name_part g form p = refl

name_parts : (g : Signature) (ps : Forest) → (with_parts g ps).name ≡ g.name
name_parts g none = refl
name_parts g (more p ps) = name_parts (with_part g (form_of p) p) ps ∙ name_part g (form_of p) p

pub name_of : (w : List ℕ) (parts : Forest) → (signature_in w parts).name ≡ name_in w
name_of w parts = name_parts (bare w) parts

-- the first function of a name
pub definition_first : (name : List ℕ) (n : ℕ) (done : List Signature) (g : Signature) (rest : List Signature) →
    Each (λ (h : Signature). bytes_eq h.name name ≡ false) done → bytes_eq g.name name ≡ true →
    definition_from name n (done ++ g ∷ rest) ≡ Some (n + length done, g.kernel)
definition_first name n [] g rest h e =
    ap (λ b. if b then Some (n, g.kernel) else definition_from name (suc n) rest) e ∙
    ap (λ z. Some (z, g.kernel)) (let q : n ≡ n + 0 = omega arith in q)
definition_first name n (x ∷ done) g rest h e =
    ap (λ b. if b then Some (n, x.kernel) else definition_from name (suc n) (done ++ g ∷ rest)) h.0 ∙
    (definition_first name (suc n) done g rest h.1 e ∙
    ap (λ z. Some (z, g.kernel)) (let q : suc n + length done ≡ n + suc (length done) = omega arith in q))

-- a name that no function has
signature_none : (name : List ℕ) (n : ℕ) (gs : List Signature) → definition_from name n gs ≡ None →
    signature_of name gs ≡ None
signature_none name n [] h = refl
signature_none name n (g ∷ gs) h = by (bytes_eq g.name name) h (λ e. signature_none name (suc n) gs e)
  where
    by : (b : Bool) → (if b then Some (n, g.kernel) else definition_from name (suc n) gs) ≡ None →
        (definition_from name (suc n) gs ≡ None → signature_of name gs ≡ None) →
        (if b then Some g else signature_of name gs) ≡ None
    by true h r = absurd (none-some (n, g.kernel) (sym h))
    by false h r = r h

-- ---- what the name of a function stands for

-- a call of each function that is no kernel fits the program
abbrev pub AllCalled : Program → List Signature → Type 0
AllCalled P gs = (n : ℕ) (g : Signature) → slice_get gs n ≡ Some g → g.kernel ≡ false → CalledFits P n g

pub meaning_known : (P : Program) (f : Function) (ms : List (List ℕ)) (gs : List Signature) (name : List ℕ)
    (o : Option (ℕ × Bool)) → AllCalled P gs → definition_from name 0 gs ≡ o →
    (o ≡ None → is_called ms name ≡ false) → (q : List ℕ) → bytes_eq name q ≡ true →
    MeaningFits P f ms gs q (defined_meaning o)
meaning_known P f ms gs name None c e n q h = subst (λ z. is_called ms z ≡ false) (same_bytes name q h) (n refl)
meaning_known P f ms gs name (Some (m, true)) c e n q h = tt
meaning_known P f ms gs name (Some (m, false)) c e n q h = λ g s.
    (let d = definition_at name 0 gs m false e in
    let i = d.0 in
    let mi = d.1 in
    let s' = subst (λ z. slice_get gs z ≡ Some g) (let q : m ≡ i = omega arith in q) s in
    c m g s (d.2 g s').0)

-- ---- a function

-- the unit with what a function cannot change
abbrev as_in : Env → Env → List environment.Scope → Env
as_in u z ss =
    record u { places = z.places; functions = z.functions; tables = z.tables; labels = z.labels; scopes = ss }

-- what a function or a prototype opened is closed
closed_front : (u e later : Env) (ss : List environment.Scope) (vs : _) (as' : _) (ow : _) (ib : Bool) →
    later ≡ record e { scopes = ss; variables = vs; arrays = as'; owner = ow; in_body = ib } → e.places ≡ u.places →
    e.functions ≡ u.functions → e.tables ≡ u.tables → e.labels ≡ u.labels → take (length u.scopes) ss ≡ u.scopes →
    without_variables u later ≡ u
closed_front u e later ss vs as' ow ib f p g t l s =
    ap (λ z. without_variables u z) f
    ∙ (ap (λ z. record u {
      places = z;
      functions = e.functions;
      tables = e.tables;
      labels = e.labels;
      scopes = take (length u.scopes) ss;
    }) p
    ∙ (ap (λ z. record u { functions = z; tables = e.tables; labels = e.labels; scopes = take (length u.scopes) ss }) g
    ∙ (ap (λ z. record u { tables = z; labels = e.labels; scopes = take (length u.scopes) ss }) t
    ∙ (ap (λ z. record u { labels = z; scopes = take (length u.scopes) ss }) l
    ∙ ap (λ z. record u { scopes = z }) s))))

function_closed : (asked : Asked) (u : Env) (sites : List Place) (w : List ℕ) (f l : ℕ) (parts : Forest)
    (fr : Front asked (in_definition u (name_in w)) sites true (bare w) parts) →
    without_variables u (behind fr.eb fr.block) ≡ u
function_closed asked u sites w f l parts fr =
    let e0 = in_definition u (name_in w) in
    let en = ending fr.eb fr.block in
    let gr = grown asked u sites w f l parts fr in
    let be = block_ends fr.eb fr.block fr.shape (marked asked u sites w f l parts fr) in
    let sc : take (length fr.eb.scopes) en.scopes ≡ en.scopes = outer_whole fr.eb.scopes en.scopes gr.scopes in
    closed_front u e0 (behind fr.eb fr.block) (take (length fr.eb.scopes) en.scopes) en.variables en.arrays
    fr.eb.owner true
    (be ∙ (ap (λ z. before_labels fr.eb z) gr.frame ∙
    ap (λ (z : Env). record z {
      scopes = take (length fr.eb.scopes) en.scopes;
      variables = en.variables;
      arrays = en.arrays;
    }) fr.entered.frame))
    refl refl refl refl (ap (take (length u.scopes)) sc ∙ fr.entered.outer en.scopes gr.scopes)

pub function_leaves : (asked : Asked) (u : Env) (sites : List Place) (w : List ℕ) (f l : ℕ) (parts : Forest)
    (fr : Front asked (in_definition u (name_in w)) sites true (bare w) parts) →
    behind u (node forms.FunctionNode w f l parts) ≡ with_function u (name_in w)
unfolding behind restored left inside
function_leaves asked u sites w f l parts fr =
    ap (λ z. with_function (without_variables u z) (name_in w)) fr.inner ∙
    ap (λ z. with_function z (name_in w)) (function_closed asked u sites w f l parts fr)

pub function_visible : (asked : Asked) (u : Env) (sites : List Place) (w : List ℕ) (f l : ℕ) (parts : Forest)
    (fr : Front asked (in_definition u (name_in w)) sites true (bare w) parts) →
    visible_at u (node forms.FunctionNode w f l parts) ≡ u
unfolding restored inside
function_visible asked u sites w f l parts fr =
    ap (λ z. without_variables u z) fr.inner ∙ function_closed asked u sites w f l parts fr

-- a function is declared once
pub function_new : (asked : Asked) (u : Env) (sites : List Place) (role : Role) (w : List ℕ) (f l : ℕ)
    (parts : Forest) (fr : Front asked (in_definition u (name_in w)) sites true (bare w) parts) →
    SoundTree asked u role (node forms.FunctionNode w f l parts) → is_declared u (name_in w) ≡ false
function_new asked u sites role w f l parts fr s =
    let h = s.1.0 faults.DeclaredTwice in
    let v = function_visible asked u sites w f l parts fr in
    neither_first (is_declared u (name_in w)) (is_known_name u (name_in w))
    (subst (λ z. (is_declared z (name_in w) || is_known_name z (name_in w)) ≡ false) v h)

pub function_grown : (u : Env) (name : List ℕ) → UnitGrown u (with_function u name)
function_grown u name = record {
  frame = refl;
  one = one_named u (with_function u name) name _ refl;
  tables = extends_same u.tables;
  firm' = λ q o h. firm_named u (with_function u name) name _ q o refl h;
}

-- the name of a function is declared behind it
pub function_firm : (u : Env) (name : List ℕ) → OneScope u → is_declared (with_function u name) name ≡ true
function_firm u name (s, us) =
    ap (λ z. is_firm (in_last (into_last z name (firm (defined_meaning (definition_of u name)))) name)) us ∙
    ap (λ b. is_firm (if b then Some (firm (defined_meaning (definition_of u name))) else s name)) (bytes_same name)

-- ---- a prototype

prototype_closed : (asked : Asked) (u : Env) (sites : List Place) (parts : Forest)
    (fo : Fore asked (in_prototype u) sites true parts) → without_variables u fo.eb ≡ u
prototype_closed asked u sites parts fo =
    let e = in_prototype u in
    closed_front u e fo.eb fo.eb.scopes fo.eb.variables e.arrays fo.eb.owner true fo.frame refl refl refl refl fo.outer

pub prototype_leaves : (asked : Asked) (u : Env) (sites : List Place) (w : List ℕ) (f l : ℕ) (parts : Forest)
    (fo : Fore asked (in_prototype u) sites true parts) → behind u (node forms.PrototypeNode w f l parts) ≡
    with_prototype u (name_in w)
unfolding behind restored left inside
prototype_leaves asked u sites w f l parts fo =
    ap (λ z. with_prototype (without_variables u z) (name_in w)) fo.inner ∙
    ap (λ z. with_prototype z (name_in w)) (prototype_closed asked u sites parts fo)

prototype_visible : (asked : Asked) (u : Env) (sites : List Place) (w : List ℕ) (f l : ℕ) (parts : Forest)
    (fo : Fore asked (in_prototype u) sites true parts) → visible_at u (node forms.PrototypeNode w f l parts) ≡ u
unfolding restored inside
prototype_visible asked u sites w f l parts fo =
    ap (λ z. without_variables u z) fo.inner ∙ prototype_closed asked u sites parts fo

-- a function with a prototype alone is not called
pub prototype_uncalled : (asked : Asked) (u : Env) (sites : List Place) (role : Role) (w : List ℕ) (f l : ℕ)
    (parts : Forest) (fo : Fore asked (in_prototype u) sites true parts) →
    SoundTree asked u role (node forms.PrototypeNode w f l parts) → definition_of u (name_in w) ≡ None →
    is_called asked.missing (name_in w) ≡ false
prototype_uncalled asked u sites role w f l parts fo s e =
    let h = s.1.0 faults.PrototypeMatch in
    let v = prototype_visible asked u sites w f l parts fo in
    let h' = subst (λ (z : Env). prototype_misfits asked (signature_in w parts)
    (signature_of (name_in w) z.functions) ≡ false) v h in
    let h'' = subst (λ z. prototype_misfits asked (signature_in w parts) z ≡ false)
    (signature_none (name_in w) 0 u.functions e) h' in
    ap (is_called asked.missing) (sym (name_of w parts)) ∙ h''

-- the entry of a prototype
abbrev pub proto_entry : Env → List ℕ → Entry
proto_entry u name = record { meaning = defined_meaning (definition_of u name); firm = false }

free_by : (u : Env) (name : List ℕ) (o : Option Entry) → announced (record u { scopes = (λ q. o) ∷ [] }) name ≡ true →
    o ≡ None
free_by u name None h = refl
free_by u name (Some e) h = absurd (false≢true h)

proto_firm : (u : Env) (name : List ℕ) (q : List ℕ) → OneScope u → announced u name ≡ true → is_declared u q ≡ true →
    is_declared (environment.declare u name (proto_entry u name)) q ≡ true
proto_firm u name q (s, us) a h =
    let fr = free_by u name (s name) (subst (λ z. announced (record u { scopes = z }) name ≡ true) us a) in
    ap (λ z. is_firm (in_last (into_last z name (proto_entry u name)) q)) us ∙
    by (bytes_eq name q) refl (ap (λ z. is_firm (in_last z q)) (sym us) ∙ h) fr
  where
    by : (b : Bool) → bytes_eq name q ≡ b → is_firm (s q) ≡ true → s name ≡ None →
        is_firm (if b then Some (proto_entry u name) else s q) ≡ true
    by true e k n = absurd (false≢true (sym (ap is_firm (ap s (sym (same_bytes name q e)) ∙ n)) ∙ k))
    by false e k n = k

-- what a prototype leaves: one name more, or nothing
pub prototype_cases : (u : Env) (name : List ℕ) → OneScope u → (UnitGrown u (with_prototype u name)) ×
    ((with_prototype u name ≡ u) ⊎ (with_prototype u name ≡ environment.declare u name (proto_entry u name)))
prototype_cases u name o = by (announced u name) refl
  where
    by : (b : Bool) → announced u name ≡ b →
        (UnitGrown u (if b then environment.declare u name (proto_entry u name) else u)) ×
        (((if b then environment.declare u name (proto_entry u name) else u) ≡ u) ⊎
        ((if b then environment.declare u name (proto_entry u name) else u) ≡
        environment.declare u name (proto_entry u name)))
    by true e = (
      record {
        frame = refl;
        one = one_named u (environment.declare u name (proto_entry u name)) name (proto_entry u name) refl;
        tables = extends_same u.tables;
        firm' = λ q o' h. proto_firm u name q o' e h;
      },
      inr refl,
    )
    by false e = (constants_proofs.unit_same u, inl refl)
