-- One more name, declared in the innermost scopes of both sides.
use Rattle.std.proofs.Common.{◌≡◌, ℕ, suc, ◌≤◌, List, [], ◌∷◌, length, Option, None, Some, Bool, true, false}
use Rattle.std.proofs.Common.{if◌then◌else◌, refl, ap, sym, ◌∙◌, subst}
use Rattle.std.proofs.lemmas.Bool.{false≢true}
use Rattle.std.proofs.lemmas.Slice.Eq.{bytes_eq-Decides}
use Rattle.std.specs.Str.{bytes_eq}
use Rattle.cl_meaning.specs.Names.{intrinsic_in}
use Rattle.cl_meaning.specs.declared.names.Intrinsic.{Intrinsic}
use Rattle.cl_meaning.specs.declared.kind.Entry.{Entry}
use Rattle.cl_meaning.specs.Environment.{Env, Scope, is_firm, meaning_of, meaning_in, found_in, in_last, into_last}
use Rattle.cl_meaning.specs.Environment.{or_else, with_entry, declare}
use Rattle.cl_meaning.specs.Kinds.{Callee, known, callee_of, callee_by, on_one, kind_of_meaning}
use Rattle.cl_meaning.specs.Faults.{Asked}
use Rattle.cl_short_vec.specs.declared.nodes.Span.{Span}
use Rattle.cl_short_vec.specs.declared.kinds.Reach.TheVariants.{Value, Variable, Element}
use Rattle.cl_short_vec.specs.declared.kinds.Kind as vectors
use Rattle.cl_short_vec.specs.declared.kinds.Kind.TheVariants.{Vectors, Pointer, Other}
use Rattle.cl_short_vec.specs.Kinds.{Names, with_name, is_other}
use Rattle.cl_short_vec.specs.Nodes.{component_name, helper}
use Rattle.cl_short_vec_faults.specs.Plainly.{has_point, unnumbered, StandsAlike, PointsAs, width_in}
use Rattle.cl_short_vec_faults.specs.Law.{AllGive, CalleeGives}
use Rattle.cl_short_vec_faults.specs.Parts.{KnownAlone}
use Rattle.cl_short_vec_faults.specs.Beside.{IsName, ScopeBeside, ScopesBeside, Beside}
use Rattle.cl_short_vec_faults.proofs.Points.{component_point}

-- ---- names

pub same_name : (q r : List ℕ) → bytes_eq q r ≡ true → q ≡ r
same_name q r h = (bytes_eq-Decides q r).0 h

pub own_bytes : (q : List ℕ) → bytes_eq q q ≡ true
own_bytes q = (bytes_eq-Decides q q).1 refl

-- a name without a point is none with one
pub apart_by_point : (q r : List ℕ) → has_point q ≡ false → has_point r ≡ true → bytes_eq q r ≡ false
apart_by_point q r h k = by (bytes_eq q r) refl
  where
    by : (b : Bool) → bytes_eq q r ≡ b → b ≡ false
    by true e = absurd (false≢true (sym h ∙ (ap has_point (same_name q r e) ∙ k)))
    by false e = refl

pub helper_point : (s : Span) → has_point (helper s) ≡ true
helper_point s = refl

-- ---- what is found

abbrev pub has_scope : List Scope → Bool
has_scope [] = false
has_scope (s ∷ ss) = true

pub found_more : (ss : List Scope) → has_scope ss ≡ true → (name : List ℕ) (e : Entry) (q : List ℕ) →
    found_in (into_last ss name e) q ≡ (if bytes_eq name q then Some e else found_in ss q)
found_more [] h name e q = absurd (false≢true h)
found_more (s ∷ []) h name e q = by (bytes_eq name q)
  where
    by : (b : Bool) → or_else None (if b then Some e else s q) ≡ (if b then Some e else or_else None (s q))
    by true = refl
    by false = refl
found_more (s ∷ (r ∷ rs)) h name e q =
    ap (λ z. or_else z (s q)) (found_more (r ∷ rs) refl name e q) ∙ by (bytes_eq name q)
  where
    by : (b : Bool) → or_else (if b then Some e else found_in (r ∷ rs) q) (s q) ≡
        (if b then Some e else or_else (found_in (r ∷ rs) q) (s q))
    by true = refl
    by false = refl

meant_more : (env : Env) → has_scope env.scopes ≡ true → (name : List ℕ) (e : Entry) (q : List ℕ) →
    meaning_of (declare env name e) q ≡ meaning_in (if bytes_eq name q then Some e else found_in env.scopes q)
meant_more env h name e q = ap meaning_in (found_more env.scopes h name e q)

pub meant_there : (env : Env) → has_scope env.scopes ≡ true → (name : List ℕ) (e : Entry) →
    meaning_of (declare env name e) name ≡ Some e.meaning
meant_there env h name e = meant_more env h name e name ∙
    ap (λ b. meaning_in (if b then Some e else found_in env.scopes name)) (own_bytes name)

pub meant_other : (env : Env) → has_scope env.scopes ≡ true → (name : List ℕ) (e : Entry) (q : List ℕ) →
    bytes_eq name q ≡ false → meaning_of (declare env name e) q ≡ meaning_of env q
meant_other env h name e q n =
    meant_more env h name e q ∙ ap (λ b. meaning_in (if b then Some e else found_in env.scopes q)) n

into_length : (ss : List Scope) (name : List ℕ) (e : Entry) → length (into_last ss name e) ≡ length ss
into_length [] name e = refl
into_length (s ∷ []) name e = refl
into_length (s ∷ (r ∷ rs)) name e = ap suc (into_length (r ∷ rs) name e)

pub scope_by_length : (ss rs : List Scope) → length rs ≡ length ss → has_scope ss ≡ true → has_scope rs ≡ true
scope_by_length [] rs e h = absurd (false≢true h)
scope_by_length (s ∷ ss) [] e h = absurd cc
scope_by_length (s ∷ ss) (r ∷ rs) e h = refl

-- ---- scopes

-- the entries of one name on both sides: what the form declares, the plain form does
abbrev pub Both : Option Entry → (plain form : Entry) → Type 0
Both old e g = (g.firm ≡ true → e.firm ≡ true) × (is_firm old ≡ true → e.firm ≡ true)

scope_named : (n : ℕ) (s r : Scope) (name : List ℕ) (e g : Entry) → IsName name → Both (s name) e g →
    ScopeBeside n s r → ScopeBeside n (with_entry s name e) (with_entry r name g)
scope_named n s r name e g is b h = record {
  declared = λ q i k. by q (bytes_eq name q) refl k (λ z. h.declared q i z);
  components = λ q i c k. named q (bytes_eq name q) refl (h.components q i c (other (component_name q c)
      (component_point q c) k));
  helps = λ x l m. ap (λ z. is_firm (if z then Some g else r (helper x)))
      (apart_by_point name (helper x) is.plain (helper_point x)) ∙ h.helps x l m;
  parts = λ x l m c. ap (λ z. is_firm (if z then Some g else r (component_name (helper x) c)))
      (apart_by_point name (component_name (helper x) c) is.plain (component_point (helper x) c)) ∙ h.parts x l m c;
}
  where
    by : (q : List ℕ) (z : Bool) → bytes_eq name q ≡ z → is_firm (if z then Some g else r q) ≡ true →
        (is_firm (r q) ≡ true → is_firm (s q) ≡ true) → is_firm (if z then Some e else s q) ≡ true
    by q true t k f = b.0 k
    by q false t k f = f k

    named : (q : List ℕ) (z : Bool) → bytes_eq name q ≡ z → is_firm (s q) ≡ true →
        is_firm (if z then Some e else s q) ≡ true
    named q true t k = b.1 (ap (λ z. is_firm (s z)) (same_name name q t) ∙ k)
    named q false t k = k

    other : (q : List ℕ) → has_point q ≡ true → is_firm (if bytes_eq name q then Some g else r q) ≡ true →
        is_firm (r q) ≡ true
    other q p k = subst (λ z. is_firm (if z then Some g else r q) ≡ true) (apart_by_point name q is.plain p) k

scopes_named : (n : ℕ) (ss rs : List Scope) (name : List ℕ) (e g : Entry) → IsName name →
    Both (in_last ss name) e g → ScopesBeside n ss rs → ScopesBeside n (into_last ss name e) (into_last rs name g)
scopes_named n [] [] name e g is b h = tt
scopes_named n (s ∷ []) (r ∷ []) name e g is b h = (scope_named n s r name e g is b h.0, tt)
scopes_named n (s ∷ (t ∷ ts)) (r ∷ (u ∷ us)) name e g is b h =
    (h.0, scopes_named n (t ∷ ts) (u ∷ us) name e g is b h.1)
scopes_named n [] (r ∷ rs) name e g is b h = absurd h
scopes_named n (s ∷ []) [] name e g is b h = absurd h
scopes_named n (s ∷ (t ∷ ts)) [] name e g is b h = absurd h
scopes_named n (s ∷ []) (r ∷ (u ∷ us)) name e g is b h = absurd h.1
scopes_named n (s ∷ (t ∷ ts)) (r ∷ []) name e g is b h = absurd h.1

-- what the innermost scope of the form declares
pub last_declared : (n : ℕ) (ss rs : List Scope) (q : List ℕ) → IsName q → ScopesBeside n ss rs →
    is_firm (in_last rs q) ≡ true → is_firm (in_last ss q) ≡ true
last_declared n [] [] q is h k = k
last_declared n (s ∷ []) (r ∷ []) q is h k = h.0.declared q is k
last_declared n (s ∷ (t ∷ ts)) (r ∷ (u ∷ us)) q is h k = last_declared n (t ∷ ts) (u ∷ us) q is h.1 k
last_declared n [] (r ∷ rs) q is h k = absurd h
last_declared n (s ∷ []) [] q is h k = absurd h
last_declared n (s ∷ (t ∷ ts)) [] q is h k = absurd h
last_declared n (s ∷ []) (r ∷ (u ∷ us)) q is h k = absurd h.1
last_declared n (s ∷ (t ∷ ts)) (r ∷ []) q is h k = absurd h.1

-- ---- what names stand for

alike_at : (k : vectors.Kind) (q : List ℕ) (p s p' s' : Env) → meaning_of p' q ≡ meaning_of p q →
    meaning_of s' q ≡ meaning_of s q →
    ((c : ℕ) → meaning_of s' (component_name q c) ≡ meaning_of s (component_name q c)) → StandsAlike k q p s →
    StandsAlike k q p' s'
alike_at (Other y) q p s p' s' a b d h = ap unnumbered b ∙ h ∙ sym (ap unnumbered a)
alike_at (Pointer sp c v) q p s p' s' a b d (h, r) = (
  ap unnumbered b ∙ h ∙ sym (ap unnumbered a),
  subst (λ z. PointsAs sp c v (on_one z kind_of_meaning)) (sym a) r,
)
alike_at (Vectors v Variable) q p s p' s' a b d (fixed, h, r) =
    (fixed, ap unnumbered a ∙ h, λ c l. ap unnumbered (d c) ∙ r c l)
alike_at (Vectors v Value) q p s p' s' a b d h = absurd h
alike_at (Vectors v (Element sp c)) q p s p' s' a b d h = absurd h

callee_at : (a b : Env) (q : List ℕ) → b.functions ≡ a.functions → meaning_of b q ≡ meaning_of a q →
    callee_of b q ≡ callee_of a q
callee_at a b q f e = ap (callee_by b q) e ∙ ap (λ z. callee_by (record a { functions = z }) q (meaning_of a q)) f

-- ---- both sides

-- what is to be known of a name that is declared, by what it stands for
pub record Fresh (asked : Asked) (p s : Env) (name : List ℕ) (k : vectors.Kind) (e g : Entry) : Type 0 where
  pub is : IsName name
  pub narrow : width_in k ≤ 16
  pub alike : StandsAlike k name (declare p name e) (declare s name g)
  pub both : Both (in_last p.scopes name) e g
  pub gives : (c : Callee) → callee_by p name (Some e.meaning) ≡ Some c → CalleeGives asked name c
  pub alone : (i : Intrinsic) (c : Callee) → intrinsic_in name ≡ Some i → callee_by p name (Some e.meaning) ≡ Some c →
      c ≡ known i

module _ (asked : Asked) (names : Names) (n : ℕ) (p s : Env) (name : List ℕ) (k : vectors.Kind) (e g : Entry)
    (x : Fresh asked p s name k e g) (there : has_scope p.scopes ≡ true) (h : Beside asked names n p s) where
  there' : has_scope s.scopes ≡ true
  there' = scope_by_length p.scopes s.scopes h.plainly.depth there

  abbrev after : Names
  after = with_name names name k

  alike_after : (q : List ℕ) → has_point q ≡ false → StandsAlike (after q) q (declare p name e) (declare s name g)
  alike_after q z = by (bytes_eq name q) refl
    where
      by : (b : Bool) → bytes_eq name q ≡ b →
          StandsAlike (if b then k else names q) q (declare p name e) (declare s name g)
      by true t = subst (λ y. StandsAlike k y (declare p name e) (declare s name g)) (same_name name q t) x.alike
      by false t = alike_at (names q) q p s (declare p name e) (declare s name g) (meant_other p there name e q t)
          (meant_other s there' name g q t) (λ c. meant_other s there' name g (component_name q c)
          (apart_by_point name (component_name q c) x.is.plain (component_point q c))) (h.plainly.names' q z)

  narrow_after : (q : List ℕ) → width_in (after q) ≤ 16
  narrow_after q = by (bytes_eq name q)
    where
      by : (b : Bool) → width_in (if b then k else names q) ≤ 16
      by true = x.narrow
      by false = h.plainly.narrow q

  named_after : (q : List ℕ) → is_other (after q) ≡ false → IsName q
  named_after q = by (bytes_eq name q) refl
    where
      by : (b : Bool) → bytes_eq name q ≡ b → is_other (if b then k else names q) ≡ false → IsName q
      by true t z = subst IsName (same_name name q t) x.is
      by false t z = h.named q z

  callee_there : callee_of (declare p name e) name ≡ callee_by p name (Some e.meaning)
  callee_there = ap (callee_by (declare p name e) name) (meant_there p there name e)

  gives_after : AllGive asked (declare p name e)
  gives_after q c = by (bytes_eq name q) refl
    where
      by : (b : Bool) → bytes_eq name q ≡ b → callee_of (declare p name e) q ≡ Some c → CalleeGives asked q c
      by true t z =
          let d = same_name name q t in
          subst (λ y. CalleeGives asked y c) d
          (x.gives c (sym callee_there ∙ subst (λ y. callee_of (declare p name e) y ≡ Some c) (sym d) z))
      by false t z = h.gives q c
          (sym (callee_at p (declare p name e) q refl (meant_other p there name e q t)) ∙ z)

  alone_after : KnownAlone (declare p name e)
  alone_after q i c = by (bytes_eq name q) refl
    where
      by : (b : Bool) → bytes_eq name q ≡ b → intrinsic_in q ≡ Some i → callee_of (declare p name e) q ≡ Some c →
          c ≡ known i
      by true t y z =
          let d = same_name name q t in
          x.alone i c (ap intrinsic_in d ∙ y)
          (sym callee_there ∙ subst (λ y. callee_of (declare p name e) y ≡ Some c) (sym d) z)
      by false t y z = h.alone q i c y
          (sym (callee_at p (declare p name e) q refl (meant_other p there name e q t)) ∙ z)

  pub beside_named : Beside asked after n (declare p name e) (declare s name g)
  beside_named = let y = h.plainly in record {
    plainly = record {
      functions = y.functions;
      owner = y.owner;
      declared = y.declared;
      flags = y.flags;
      outside = y.outside;
      in_body = y.in_body;
      in_loop = y.in_loop;
      in_switch = y.in_switch;
      labels = y.labels;
      depth = into_length s.scopes name g ∙ y.depth ∙ sym (into_length p.scopes name e);
      arrays = y.arrays;
      tables = y.tables;
      names' = alike_after;
      narrow = narrow_after;
    };
    scopes = scopes_named n p.scopes s.scopes name e g x.is x.both h.scopes;
    open' = subst (λ z. 1 ≤ z) (sym (into_length p.scopes name e)) h.open';
    unflagged = h.unflagged;
    gives = gives_after;
    alone = alone_after;
    named = named_after;
  }

-- ---- where names stand for the same vectors

pub beside_names : (asked : Asked) (names others : Names) (n : ℕ) (p s : Env) →
    ((q : List ℕ) → others q ≡ names q) → Beside asked names n p s → Beside asked others n p s
beside_names asked names others n p s e h = let y = h.plainly in record {
  plainly = record {
    functions = y.functions;
    owner = y.owner;
    declared = y.declared;
    flags = y.flags;
    outside = y.outside;
    in_body = y.in_body;
    in_loop = y.in_loop;
    in_switch = y.in_switch;
    labels = y.labels;
    depth = y.depth;
    arrays = y.arrays;
    tables = y.tables;
    names' = λ q z. subst (λ k. StandsAlike k q p s) (sym (e q)) (y.names' q z);
    narrow = λ q. subst (λ k. width_in k ≤ 16) (sym (e q)) (y.narrow q);
  };
  scopes = h.scopes;
  open' = h.open';
  unflagged = h.unflagged;
  gives = h.gives;
  alone = h.alone;
  named = λ q z. h.named q (sym (ap is_other (e q)) ∙ z);
}

-- a name that stands for no vector does not change them
pub other_names : (names : Names) (name : List ℕ) (visible : Bool) → names name ≡ Other visible → (q : List ℕ) →
    names q ≡ with_name names name (Other visible) q
other_names names name visible h q = by (bytes_eq name q) refl
  where
    by : (b : Bool) → bytes_eq name q ≡ b → names q ≡ (if b then Other visible else names q)
    by true e = ap names (sym (same_name name q e)) ∙ h
    by false e = refl
