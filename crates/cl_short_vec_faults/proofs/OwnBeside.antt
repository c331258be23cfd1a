-- The names of functions: behind a function, behind a prototype, and of a function in itself.
use Rattle.std.proofs.Common.{◌≡◌, ℕ, List, [], ◌∷◌, ◌++◌, length, Option, None, Some, Bool, true, false, ◌&&◌}
use Rattle.std.proofs.Common.{if◌then◌else◌, refl, ap, sym, ◌∙◌, subst, slice_get, arith}
use Rattle.std.proofs.lemmas.Bool.{false≢true}
use Rattle.std.proofs.lemmas.Option.{none-some, same_Some}
use Rattle.cl_meaning.specs.Names.{intrinsic_in}
use Rattle.cl_meaning.specs.declared.names.Intrinsic.{Intrinsic}
use Rattle.cl_meaning.specs.declared.kind.Entry.{Entry}
use Rattle.cl_meaning.specs.Environment.{Env, Scope, Signature, meaning_of, meaning_in, found_in, into_last, with_entry}
use Rattle.cl_meaning.specs.Environment.{empty_scope, declare, in_last, is_firm}
use Rattle.cl_meaning.specs.Kinds.{Callee, is_some, result_kind, callee_by, defined_at, on_one}
use Rattle.cl_meaning.specs.Kinds.{kind_of_meaning}
use Rattle.cl_meaning.specs.Declarations.{firm}
use Rattle.cl_meaning.specs.Visible.{opened, with_own, own_scope, named, announced, with_function, with_prototype}
use Rattle.cl_meaning.specs.Visible.{function_meaning, definition_from, definition_of, defined_meaning}
use Rattle.cl_meaning.specs.Faults.{Asked}
use Rattle.cl_check_sound.proofs.Constants.{OneScope}
use Rattle.cl_short_vec.specs.declared.kinds.Reach.TheVariants.{Value, Variable, Element}
use Rattle.cl_short_vec.specs.declared.kinds.Kind as vectors
use Rattle.cl_short_vec.specs.declared.kinds.Kind.TheVariants.{Vectors, Pointer, Other}
use Rattle.cl_short_vec.specs.Kinds.{Names, with_name, is_vector}
use Rattle.cl_short_vec_faults.specs.Plainly.{has_point, unnumbered, StandsAlike, Plainly}
use Rattle.cl_short_vec_faults.specs.Law.{CalleeGives}
use Rattle.cl_short_vec_faults.specs.Beside.{IsName, Beside}
use Rattle.cl_short_vec_faults.proofs.BesideMoves.{beside_opened}
use Rattle.cl_short_vec_faults.proofs.NamedBeside.{has_scope, meant_there, Fresh, beside_named, beside_names}
use Rattle.cl_short_vec_faults.proofs.NamedBeside.{other_names}

-- ---- one scope alone

pub one_there : (env : Env) → OneScope env → has_scope env.scopes ≡ true
one_there env (s, e) = ap has_scope e

one_by : (ss rs : List Scope) → length rs ≡ length ss → (s : Scope) × (ss ≡ s ∷ []) → (r : Scope) × (rs ≡ r ∷ [])
one_by ss rs e (s, h) = by rs (e ∙ ap length h)
  where
    by : (rs : List Scope) → length rs ≡ 1 → (r : Scope) × (rs ≡ r ∷ [])
    by [] e = absurd cc
    by (r ∷ []) e = (r, refl)
    by (r ∷ (q ∷ qs)) e = absurd cc

-- the form has one too
pub one_beside : (names : Names) (p s : Env) → Plainly names p s → OneScope p → OneScope s
one_beside names p s h o = one_by p.scopes s.scopes h.depth o

-- what is in it
alone_meant : (s : Scope) (q : List ℕ) → meaning_in (found_in (s ∷ []) q) ≡ meaning_in (s q)
alone_meant s q = refl

-- ---- names that are announced

-- a name that stands for nothing stands for no vector
none_other : (k : vectors.Kind) (q : List ℕ) (p s : Env) → meaning_of p q ≡ None → StandsAlike k q p s →
    (visible : Bool) × (k ≡ Other visible)
none_other (Other visible) q p s e h = (visible, refl)
none_other (Pointer sp c v) q p s e (h, (r, reach, i)) =
    absurd (none-some _ (sym (ap (λ z. on_one z kind_of_meaning) e) ∙ i))
none_other (Vectors v Variable) q p s e (fixed, h, r) = absurd (none-some _ (sym (ap unnumbered e) ∙ h))
none_other (Vectors v Value) q p s e h = absurd h
none_other (Vectors v (Element sp c)) q p s e h = absurd h

-- the names are free on both sides or on none
FreeAlike : Option Entry → Option Entry → Type 0
FreeAlike None None = Unit {0}
FreeAlike (Some a) (Some b) = Unit {0}
FreeAlike a b = ⊥

free_alike : (k : vectors.Kind) (q : List ℕ) (p s : Env) → is_vector k ≡ false → StandsAlike k q p s →
    (a b : Option Entry) → meaning_of p q ≡ meaning_in a → meaning_of s q ≡ meaning_in b → FreeAlike a b
unfolding FreeAlike
free_alike k q p s v h a b d e = by k v h
  where
    cases : (x y : Option Entry) → unnumbered (meaning_in y) ≡ unnumbered (meaning_in x) → FreeAlike x y
    cases None None i = tt
    cases (Some x) (Some y) i = tt
    cases None (Some y) i = absurd (none-some _ (sym i))
    cases (Some x) None i = absurd (none-some _ i)

    same : unnumbered (meaning_of s q) ≡ unnumbered (meaning_of p q) → FreeAlike a b
    same i = cases a b (sym (ap unnumbered e) ∙ i ∙ ap unnumbered d)

    by : (k : vectors.Kind) → is_vector k ≡ false → StandsAlike k q p s → FreeAlike a b
    by (Other b) v h = same h
    by (Pointer sp c u) v (h, r) = same h
    by (Vectors u r) v h = absurd (false≢true (sym v))

announced_by : (p s : Env) (name : List ℕ) (a b : Option Entry) → FreeAlike a b →
    announced (record s { scopes = (λ q. b) ∷ [] }) name ≡ announced (record p { scopes = (λ q. a) ∷ [] }) name
unfolding FreeAlike
announced_by p s name None None h = refl
announced_by p s name (Some a) (Some b) h = refl
announced_by p s name None (Some b) h = absurd h
announced_by p s name (Some a) None h = absurd h

pub announced_same : (names : Names) (p s : Env) (name : List ℕ) → OneScope p → is_vector (names name) ≡ false →
    has_point name ≡ false → Plainly names p s → announced s name ≡ announced p name
announced_same names p s name (a, e) v z h =
    let (b, f) = one_beside names p s h (a, e) in
    ap (λ y. announced (record s { scopes = y }) name) f ∙
    (announced_by p s name (a name) (b name) (free_alike (names name) name p s v (h.names' name z) (a name) (b name)
    (ap (λ y. meaning_in (found_in y name)) e) (ap (λ y. meaning_in (found_in y name)) f)) ∙
    sym (ap (λ y. announced (record p { scopes = y }) name) e))

free_none : (u : Env) (name : List ℕ) (o : Option Entry) → announced (record u { scopes = (λ q. o) ∷ [] }) name ≡ true →
    o ≡ None
free_none u name None h = refl
free_none u name (Some e) h = absurd (false≢true h)

-- what is announced stands for nothing yet, and is not known without a declaration
pub announced_free : (u : Env) (name : List ℕ) → OneScope u → announced u name ≡ true → meaning_of u name ≡ None
announced_free u name (s, e) h =
    ap (λ y. meaning_in (found_in y name)) e ∙
    ap meaning_in (free_none u name (s name) (sym (ap (λ y. announced (record u { scopes = y }) name) e) ∙ h))

and_false : (b : Bool) → (b && false) ≡ false
and_false true = refl
and_false false = refl

pub announced_unknown : (env : Env) (name : List ℕ) → announced env name ≡ true → (i : Intrinsic) →
    intrinsic_in name ≡ Some i → ⊥
announced_unknown env name a i e =
    let n : announced env name ≡ false = rw e (and_false _) in
    false≢true (sym n ∙ a)

pub announced_other : (names : Names) (p s : Env) (name : List ℕ) → OneScope p → has_point name ≡ false →
    Plainly names p s → announced p name ≡ true → (visible : Bool) × (names name ≡ Other visible)
announced_other names p s name o z h a =
    none_other (names name) name p s (announced_free p name o a) (h.names' name z)

-- ---- what calls of a function give

pub function_gives : (asked : Asked) (p : Env) (name : List ℕ) (kernel : Bool) (m : ℕ) (g : Signature) →
    slice_get p.functions m ≡ Some g → is_some (result_kind g.result) ≡ true → (c : Callee) →
    callee_by p name (Some (function_meaning kernel m)) ≡ Some c → CalleeGives asked name c
function_gives asked p name true m g e r c h = absurd (none-some c h)
function_gives asked p name false m g e r c h =
    subst (CalleeGives asked name) (same_Some _ _ (sym (ap (defined_at m) e) ∙ h)) r

abbrev pub DefinitionGives : Asked → Env → List ℕ → Type 0
DefinitionGives asked p name =
    (c : Callee) → callee_by p name (Some (defined_meaning (definition_of p name))) ≡ Some c → CalleeGives asked name c

-- of a function whose place this is
pub defined_gives : (asked : Asked) (p : Env) (name : List ℕ) (kernel : Bool) (m : ℕ) (g : Signature) →
    definition_of p name ≡ Some (m, kernel) → slice_get p.functions m ≡ Some g →
    is_some (result_kind g.result) ≡ true → DefinitionGives asked p name
defined_gives asked p name kernel m g d e r = λ c h.
    function_gives asked p name kernel m g e r c
    (sym (ap (λ z. callee_by p name (Some (defined_meaning z))) d) ∙ h)

-- what stands for nothing is not declared
nothing_firm : (p : Env) (name : List ℕ) → OneScope p → meaning_of p name ≡ None →
    is_firm (in_last p.scopes name) ≡ true → ⊥
nothing_firm p name (a, e) z k =
    by (a name) (sym (ap (λ y. meaning_in (found_in y name)) e) ∙ z) (sym (ap (λ y. is_firm (in_last y name)) e) ∙ k)
  where
    by : (b : Option Entry) → meaning_in b ≡ None → is_firm b ≡ true → ⊥
    by None m f = false≢true f
    by (Some x) m f = none-some _ (sym m)

-- ---- behind a function

module _ (asked : Asked) (names : Names) (n : ℕ) (p s : Env) (name : List ℕ) (is : IsName name) (o : OneScope p)
    (gives : DefinitionGives asked p name) (h : Beside asked names n p s) where
  there : has_scope p.scopes ≡ true
  there = one_there p o

  there' : has_scope s.scopes ≡ true
  there' = one_there s (one_beside names p s h.plainly o)

  definition_same : definition_of s name ≡ definition_of p name
  definition_same = ap (definition_from name 0) h.plainly.functions

  defined_fresh : (visible fixed : Bool) → (fixed ≡ false → meaning_of p name ≡ None) →
      ((i : Intrinsic) → intrinsic_in name ≡ Some i → ⊥) → Fresh asked p s name (Other visible)
      (record { meaning = defined_meaning (definition_of p name); firm = fixed })
      (record { meaning = defined_meaning (definition_of s name); firm = fixed })
  defined_fresh visible fixed free new = record {
    is = is;
    narrow = omega arith;
    alike = ap unnumbered (meant_there s there' name _) ∙
        (ap (λ z. unnumbered (Some (defined_meaning z))) definition_same ∙
        sym (ap unnumbered (meant_there p there name _)));
    both = ((λ z. z), by fixed free);
    gives = gives;
    alone = λ i c e z. absurd (new i e);
  }
    where
      by : (b : Bool) → (b ≡ false → meaning_of p name ≡ None) → is_firm (in_last p.scopes name) ≡ true → b ≡ true
      by true f k = refl
      by false f k = absurd (nothing_firm p name o (f refl) k)

  -- a function is visible behind its definition
  pub beside_function : ((i : Intrinsic) → intrinsic_in name ≡ Some i → ⊥) →
      Beside asked (with_name names name (Other false)) n (with_function p name) (with_function s name)
  beside_function new = beside_named asked names n p s name (Other false)
      (firm (defined_meaning (definition_of p name)))
      (firm (defined_meaning (definition_of s name)))
      (defined_fresh false true (λ e. absurd (false≢true (sym e))) new) there h

  -- a prototype declares its name where nothing does yet
  pub beside_prototype : is_vector (names name) ≡ false →
      Beside asked names n (with_prototype p name) (with_prototype s name)
  beside_prototype v = subst (λ b. Beside asked names n (with_prototype p name) (if b then declare s name
      (record { meaning = defined_meaning (definition_of s name); firm = false }) else s))
      (sym (announced_same names p s name o v is.plain h.plainly)) (by (announced p name) refl)
    where
      by : (b : Bool) → announced p name ≡ b → Beside asked names n
          (if b then declare p name (record { meaning = defined_meaning (definition_of p name); firm = false }) else p)
          (if b then declare s name (record { meaning = defined_meaning (definition_of s name); firm = false }) else s)
      by false e = h
      by true e =
          let (visible, k) = announced_other names p s name o is.plain h.plainly e in
          let f = defined_fresh visible false (λ z. announced_free p name o e) (announced_unknown p name e) in
          beside_names asked (with_name names name (Other visible)) names n _ _ (other_names names name visible k)
          (beside_named asked names n p s name (Other visible) _ _ f there h)

-- ---- in a function

last_entry : (ss : List Scope) (name : List ℕ) (e : Entry) →
    into_last (ss ++ empty_scope ∷ []) name e ≡ ss ++ with_entry empty_scope name e ∷ []
last_entry [] name e = refl
last_entry (s ∷ []) name e = refl
last_entry (s ∷ (r ∷ rs)) name e = ap (λ z. s ∷ z) (last_entry (r ∷ rs) name e)

opened_there : (ss : List Scope) → has_scope (ss ++ empty_scope ∷ []) ≡ true
opened_there [] = refl
opened_there (s ∷ ss) = refl

-- what is to be known of the function around
abbrev pub OwnerGives : Names → Env → Type 0
OwnerGives names p = (g : Signature) → slice_get p.functions p.owner.number ≡ Some g →
    IsName g.name × (is_vector (names g.name) ≡ false) × (is_some (result_kind g.result) ≡ true)

abbrev with_scope : Env → Scope → Env
with_scope u s = record u { scopes = u.scopes ++ s ∷ [] }

module _ (asked : Asked) (names : Names) (n : ℕ) (p s : Env) (o : OneScope p) (own : OwnerGives names p)
    (h : Beside asked names n p s) where
  -- with the name of the function, where it stands for nothing yet
  own_announced : (g : Signature) → slice_get p.functions p.owner.number ≡ Some g → announced p g.name ≡ true →
      Beside asked names n
      (with_scope p (with_entry empty_scope g.name (firm (function_meaning g.kernel p.owner.number))))
      (with_scope s (with_entry empty_scope g.name (firm (function_meaning g.kernel p.owner.number))))
  own_announced g e a =
      let x = own g e in
      let m = firm (function_meaning g.kernel p.owner.number) in
      let (visible, k) = announced_other names p s g.name o x.0.plain h.plainly a in
      let f : Fresh asked (opened p) (opened s) g.name (Other visible) m m = record {
        is = x.0;
        narrow = omega arith;
        alike = ap unnumbered (meant_there (opened s) (opened_there s.scopes) g.name m) ∙
            sym (ap unnumbered (meant_there (opened p) (opened_there p.scopes) g.name m));
        both = ((λ z. z), λ z. refl);
        gives = λ c z. function_gives asked (opened p) g.name g.kernel p.owner.number g e x.2 c z;
        alone = λ i c y z. absurd (announced_unknown p g.name a i y);
      } in
      subst (λ z. Beside asked names n (record p { scopes = z }) (with_scope s (with_entry empty_scope g.name m)))
      (last_entry p.scopes g.name m)
      (subst (λ z. Beside asked names n (declare (opened p) g.name m) (record s { scopes = z }))
      (last_entry s.scopes g.name m)
      (beside_names asked (with_name names g.name (Other visible)) names n _ _ (other_names names g.name visible k)
      (beside_named asked names n (opened p) (opened s) g.name (Other visible) m m f (opened_there p.scopes)
      (beside_opened asked names n p s h))))

  own_by : (f : Option Signature) → slice_get p.functions p.owner.number ≡ f → Beside asked names n
      (with_scope p (own_scope p p.owner.number f)) (with_scope s (own_scope s p.owner.number f))
  own_by None e = beside_opened asked names n p s h
  own_by (Some g) e =
      let x = own g e in
      let m = firm (function_meaning g.kernel p.owner.number) in
      subst (λ b. Beside asked names n (with_scope p (own_scope p p.owner.number (Some g)))
      (with_scope s (if b then with_entry empty_scope g.name m else empty_scope)))
      (sym (announced_same names p s g.name o x.1 x.0.plain h.plainly)) (by g e (announced p g.name) refl)
    where
      by : (g : Signature) → slice_get p.functions p.owner.number ≡ Some g → (b : Bool) → announced p g.name ≡ b →
          Beside asked names n
          (with_scope p (if b then with_entry empty_scope g.name (firm (function_meaning g.kernel p.owner.number)) else
          empty_scope))
          (with_scope s (if b then with_entry empty_scope g.name (firm (function_meaning g.kernel p.owner.number)) else
          empty_scope))
      by g e true a = own_announced g e a
      by g e false a = beside_opened asked names n p s h

  own_same : own_scope s s.owner.number (slice_get s.functions s.owner.number) ≡
      own_scope s p.owner.number (slice_get p.functions p.owner.number)
  own_same = ap (λ z. own_scope s z (slice_get s.functions z)) (ap (λ y. y.number) h.plainly.owner) ∙
      ap (λ z. own_scope s p.owner.number (slice_get z p.owner.number)) h.plainly.functions

  pub beside_own : Beside asked names n (with_own p) (with_own s)
  beside_own = subst (λ z. Beside asked names n (with_own p) (with_scope s z)) (sym own_same)
      (own_by (slice_get p.functions p.owner.number) refl)

  -- behind the name of a function its parameters have a scope
  pub beside_entered : Beside asked names n (named p) (named s)
  beside_entered = beside_opened asked names n (with_own p) (with_own s) beside_own
