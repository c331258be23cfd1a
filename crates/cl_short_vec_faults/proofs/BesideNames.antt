-- What is visible goes on side by side behind a name that is declared: on both sides, as one variable for each
-- component of a vector, or as a helping variable in the unit without vectors alone.
use Rattle.std.proofs.Common.{◌≡◌, ℕ, ◌≤◌, List, [], ◌∷◌, length, Option, None, Some, Bool, true, false}
use Rattle.std.proofs.Common.{if◌then◌else◌, refl, ap, sym, ◌∙◌, subst, arith, inl, inr}
use Rattle.std.proofs.lemmas.Bool.{false≢true}
use Rattle.std.proofs.lemmas.Option.{none-some}
use Rattle.std.specs.Str.{bytes_eq}
use lib.Pointwise.{bytes_decides}
use Rattle.cl_meaning.specs.declared.kind.Entry.{Entry}
use Rattle.cl_meaning.specs.declared.kind.Meaning.{Meaning}
use Rattle.cl_meaning.specs.declared.names.Intrinsic.{Intrinsic}
use Rattle.cl_meaning.specs.Spelling.{intrinsic_in}
use Rattle.cl_meaning.specs.Environment.{Env, Scope, into_last, with_entry, found_in, in_last, or_else, meaning_in}
use Rattle.cl_meaning.specs.Environment.{meaning_of, is_firm, is_declared}
use Rattle.cl_meaning.specs.Declarations.{firm}
use Rattle.cl_meaning.specs.Kinds.{Callee, callee_of, callee_by, kind_of_meaning, on_one, known}
use Rattle.cl_meaning.specs.Faults.{Asked}
use Rattle.cl_short_vec.specs.declared.kinds.Reach.TheVariants.{Value, Variable, Element}
use Rattle.cl_short_vec.specs.declared.kinds.Kind as vectors
use Rattle.cl_short_vec.specs.declared.kinds.Kind.TheVariants.{Vectors, Pointer, Other}
use Rattle.cl_short_vec.specs.Kinds.{Names, with_name, is_other}
use Rattle.cl_short_vec.specs.Nodes.{component_name, helper}
use Rattle.cl_short_vec_faults.specs.Plainly.{has_point, unnumbered, StandsAlike, PointsAs, width_in}
use Rattle.cl_short_vec_faults.specs.Law.{AllGive, CalleeGives}
use Rattle.cl_short_vec_faults.specs.Parts.{KnownAlone}
use Rattle.cl_short_vec_faults.specs.Beside.{IsName, ScopeBeside, ScopesBeside, Beside}
use Rattle.cl_short_vec_faults.proofs.Points.{component_point}
use Rattle.cl_short_vec_faults.proofs.LineAdds.{into_length}
use Rattle.cl_short_vec_faults.proofs.NamesApart.{Apart, apart_from, same_name, pointed_apart, plain_apart}
use Rattle.cl_short_vec_faults.proofs.NamesApart.{begins_apart}
use Rattle.cl_short_vec_faults.proofs.NamesApart.{apart_begins, component_of_one, helping_begins, IsHelping}
use Rattle.cl_short_vec_faults.proofs.NamesApart.{helping_apart, Begins, begins_point}

-- ---- one name more

-- in the innermost scope; variables and arrays aside, nothing else changes
pub record Declares (env to : Env) (name : List ℕ) (m : Meaning) : Type 0 where
  pub scopes : to.scopes ≡ into_last env.scopes name (firm m)
  pub functions : to.functions ≡ env.functions
  pub owner : to.owner ≡ env.owner
  pub declared' : to.declared ≡ env.declared
  pub flags : to.flags ≡ env.flags
  pub in_body : to.in_body ≡ env.in_body
  pub in_loop' : to.in_loop ≡ env.in_loop
  pub in_switch' : to.in_switch ≡ env.in_switch
  pub labels : to.labels ≡ env.labels

or_else_by : (b : Bool) (e : Entry) (x y : Option Entry) →
    or_else (if b then Some e else x) y ≡ (if b then Some e else or_else x y)
or_else_by true e x y = refl
or_else_by false e x y = refl

found_into : (ss : List Scope) → 1 ≤ length ss → (name q : List ℕ) (e : Entry) →
    found_in (into_last ss name e) q ≡ (if bytes_eq name q then Some e else found_in ss q)
found_into [] h name q e = absurd (omega arith)
found_into (s ∷ []) h name q e = refl
found_into (s ∷ (r ∷ rs)) h name q e =
    ap (λ z. or_else z (s q)) (found_into (r ∷ rs) (omega arith) name q e) ∙
    or_else_by (bytes_eq name q) e (found_in (r ∷ rs) q) (s q)

last_into : (ss : List Scope) → 1 ≤ length ss → (name q : List ℕ) (e : Entry) →
    in_last (into_last ss name e) q ≡ (if bytes_eq name q then Some e else in_last ss q)
last_into [] h name q e = absurd (omega arith)
last_into (s ∷ []) h name q e = refl
last_into (s ∷ (r ∷ [])) h name q e = refl
last_into (s ∷ (r ∷ (t ∷ ts))) h name q e = last_into (r ∷ (t ∷ ts)) (omega arith) name q e

module _ (env to : Env) (name : List ℕ) (m : Meaning) (open' : 1 ≤ length env.scopes) (d : Declares env to name m) where
  pub declares_length : length to.scopes ≡ length env.scopes
  declares_length = ap length d.scopes ∙ into_length env.scopes name (firm m)

  pub declares_itself : meaning_of to name ≡ Some m
  declares_itself = ap (λ z. meaning_in (found_in z name)) d.scopes ∙
      (ap meaning_in (found_into env.scopes open' name name (firm m)) ∙
      ap (λ b. meaning_in (if b then Some (firm m) else found_in env.scopes name)) (same_name name))

  pub declares_other : (q : List ℕ) → Apart name q → meaning_of to q ≡ meaning_of env q
  declares_other q a = ap (λ z. meaning_in (found_in z q)) d.scopes ∙
      (ap meaning_in (found_into env.scopes open' name q (firm m)) ∙
      ap (λ b. meaning_in (if b then Some (firm m) else found_in env.scopes q)) a)

  pub declares_firmly : is_declared to name ≡ true
  declares_firmly = ap (λ z. is_firm (in_last z name)) d.scopes ∙
      (ap is_firm (last_into env.scopes open' name name (firm m)) ∙
      ap (λ b. is_firm (if b then Some (firm m) else in_last env.scopes name)) (same_name name))

  pub declares_no_other : (q : List ℕ) → Apart name q → is_declared to q ≡ is_declared env q
  declares_no_other q a = ap (λ z. is_firm (in_last z q)) d.scopes ∙
      (ap is_firm (last_into env.scopes open' name q (firm m)) ∙
      ap (λ b. is_firm (if b then Some (firm m) else in_last env.scopes q)) a)

  -- what was declared still is
  pub declares_more : (q : List ℕ) → is_declared env q ≡ true → is_declared to q ≡ true
  declares_more q h = by (bytes_eq name q) refl
    where
      by : (b : Bool) → bytes_eq name q ≡ b → is_declared to q ≡ true
      by true e = subst (λ z. is_declared to z ≡ true) ((bytes_decides name q).0 e) declares_firmly
      by false e = declares_no_other q e ∙ h

-- ---- scopes

plain_scope : (n : ℕ) (s r : Scope) (x : List ℕ) (m : Meaning) → ScopeBeside n s r →
    ScopeBeside n (with_entry s x (firm m)) r
plain_scope n s r x m h = record {
  declared = λ q i f. more q (h.declared q i f);
  components = λ q i c f. more q (h.components q i c f);
  helps = h.helps;
  parts = h.parts;
}
  where
    more : (q : List ℕ) → is_firm (s q) ≡ true → is_firm (with_entry s x (firm m) q) ≡ true
    more q f = by (bytes_eq x q)
      where
        by : (b : Bool) → is_firm (if b then Some (firm m) else s q) ≡ true
        by true = refl
        by false = f

plain_scopes : (n : ℕ) (ss rs : List Scope) (x : List ℕ) (m : Meaning) → ScopesBeside n ss rs →
    ScopesBeside n (into_last ss x (firm m)) rs
plain_scopes n [] [] x m h = tt
plain_scopes n [] (r ∷ rs) x m h = absurd h
plain_scopes n (s ∷ []) [] x m h = absurd h
plain_scopes n (s ∷ []) (r ∷ rs) x m h = (plain_scope n s r x m h.0, h.1)
plain_scopes n (s ∷ (t ∷ ts)) [] x m h = absurd h
plain_scopes n (s ∷ (t ∷ ts)) (r ∷ rs) x m h = (h.0, plain_scopes n (t ∷ ts) rs x m h.1)

-- of the innermost scope
abbrev pub InLast : (Scope → Type 0) → List Scope → Type 0
InLast L [] = Unit {0}
InLast L (s ∷ []) = L s
InLast L (s ∷ (t ∷ ts)) = InLast L (t ∷ ts)

form_scopes : (L : Scope → Type 0) (n : ℕ) (ss rs : List Scope) (y : List ℕ) (m : Meaning) →
    ((s r : Scope) → L s → ScopeBeside n s r → ScopeBeside n s (with_entry r y (firm m))) → InLast L ss →
    ScopesBeside n ss rs → ScopesBeside n ss (into_last rs y (firm m))
form_scopes L n [] [] y m g l h = tt
form_scopes L n [] (r ∷ rs) y m g l h = absurd h
form_scopes L n (s ∷ ss) [] y m g l h = absurd h
form_scopes L n (s ∷ []) (r ∷ []) y m g l h = (g s r l h.0, tt)
form_scopes L n (s ∷ []) (r ∷ (q ∷ qs)) y m g l h = absurd h.1
form_scopes L n (s ∷ (t ∷ ts)) (r ∷ []) y m g l h = absurd h.1
form_scopes L n (s ∷ (t ∷ ts)) (r ∷ (q ∷ qs)) y m g l h = (h.0, form_scopes L n (t ∷ ts) (q ∷ qs) y m g l h.1)

last_firm : (ss : List Scope) (x : List ℕ) → is_firm (in_last ss x) ≡ true → InLast (λ s. is_firm (s x) ≡ true) ss
last_firm [] x h = tt
last_firm (s ∷ []) x h = h
last_firm (s ∷ (t ∷ ts)) x h = last_firm (t ∷ ts) x h

last_any : (ss : List Scope) → InLast (λ s. Unit {0}) ss
last_any [] = tt
last_any (s ∷ []) = tt
last_any (s ∷ (t ∷ ts)) = last_any (t ∷ ts)

apart_entry : (r : Scope) (y q : List ℕ) (m : Meaning) → Apart y q → is_firm (with_entry r y (firm m) q) ≡ is_firm (r q)
apart_entry r y q m a = ap (λ b. is_firm (if b then Some (firm m) else r q)) a

-- a component of a variable that the plain form declares
component_scope : (n : ℕ) (x : List ℕ) (c : ℕ) (m : Meaning) → IsName x → (s r : Scope) → is_firm (s x) ≡ true →
    ScopeBeside n s r → ScopeBeside n s (with_entry r (component_name x c) (firm m))
component_scope n x c m i s r l h = record {
  declared = λ q j f. h.declared q j (sym (apart_entry r y q m
      (pointed_apart y q (component_point x c) j.plain)) ∙ f);
  components = λ q j d f. by q j d (bytes_eq y (component_name q d)) refl f;
  helps = λ t b k. apart_entry r y (helper t) m (apart_begins (helper t) x _ refl i) ∙ h.helps t b k;
  parts = λ t b k d. apart_entry r y (component_name (helper t) d) m
      (apart_begins (component_name (helper t) d) x _ refl i) ∙ h.parts t b k d;
}
  where
    y : List ℕ
    y = component_name x c

    by : (q : List ℕ) → IsName q → (d : ℕ) (b : Bool) → bytes_eq y (component_name q d) ≡ b →
        is_firm (with_entry r y (firm m) (component_name q d)) ≡ true → is_firm (s q) ≡ true
    by q j d true e f = subst (λ z. is_firm (s z) ≡ true)
        (component_of_one x q c d i.plain j.plain ((bytes_decides y (component_name q d)).0 e)) l
    by q j d false e f = h.components q j d (sym (apart_entry r y (component_name q d) m e) ∙ f)

-- a variable that the plain form declares too
named_scope : (n : ℕ) (x : List ℕ) (m : Meaning) → IsName x → (s r : Scope) → is_firm (s x) ≡ true →
    ScopeBeside n s r → ScopeBeside n s (with_entry r x (firm m))
named_scope n x m i s r l h = record {
  declared = λ q j f. by q j (bytes_eq x q) refl f;
  components = λ q j d f. h.components q j d (sym (apart_entry r x (component_name q d) m
      (plain_apart x (component_name q d) i.plain (component_point q d))) ∙ f);
  helps = λ t b k. apart_entry r x (helper t) m (plain_apart x (helper t) i.plain refl) ∙ h.helps t b k;
  parts = λ t b k d. apart_entry r x (component_name (helper t) d) m
      (plain_apart x (component_name (helper t) d) i.plain refl) ∙ h.parts t b k d;
}
  where
    by : (q : List ℕ) → IsName q → (b : Bool) → bytes_eq x q ≡ b →
        is_firm (with_entry r x (firm m) q) ≡ true → is_firm (s q) ≡ true
    by q j true e f = subst (λ z. is_firm (s z) ≡ true) ((bytes_decides x q).0 e) l
    by q j false e f = h.declared q j (sym (apart_entry r x q m e) ∙ f)

-- a helping variable of a token in front
helping_scope : (n : ℕ) (y : List ℕ) (m : Meaning) → IsHelping n y → (s r : Scope) → Unit {0} →
    ScopeBeside n s r → ScopeBeside n s (with_entry r y (firm m))
helping_scope n y m i s r l h = record {
  declared = λ q j f. h.declared q j (sym (apart_entry r y q m (pointed_apart y q (begins_point y b) j.plain)) ∙ f);
  components = λ q j d f. h.components q j d (sym (apart_entry r y (component_name q d) m
      (begins_apart y q _ b j)) ∙ f);
  helps = λ t a k. apart_entry r y (helper t) m (helping_apart n y t (helper t) i a k (inl refl)) ∙ h.helps t a k;
  parts = λ t a k d. apart_entry r y (component_name (helper t) d) m
      (helping_apart n y t (component_name (helper t) d) i a k (inr (d, refl))) ∙ h.parts t a k d;
}
  where
    b : Begins y
    b = helping_begins i.0 y i.3

-- ---- what names stand for

pub alike_kept : (k : vectors.Kind) (q : List ℕ) (p s p' s' : Env) → meaning_of p' q ≡ meaning_of p q →
    meaning_of s' q ≡ meaning_of s q →
    ((c : ℕ) → meaning_of s' (component_name q c) ≡ meaning_of s (component_name q c)) → StandsAlike k q p s →
    StandsAlike k q p' s'
alike_kept (Other y) q p s p' s' a b g h = ap unnumbered b ∙ h ∙ sym (ap unnumbered a)
alike_kept (Pointer sp c v) q p s p' s' a b g (h, r) = (
  ap unnumbered b ∙ h ∙ sym (ap unnumbered a),
  subst (λ z. PointsAs sp c v (on_one z kind_of_meaning)) (sym a) r,
)
alike_kept (Vectors v Variable) q p s p' s' a b g (fixed, h, r) =
    (fixed, ap unnumbered a ∙ h, λ c l. ap unnumbered (g c) ∙ r c l)
alike_kept (Vectors v Value) q p s p' s' a b g h = absurd h
alike_kept (Vectors v (Element sp c)) q p s p' s' a b g h = absurd h

-- what a name calls depends on what it stands for and on the functions
callee_kept : (a b : Env) (q : List ℕ) → b.functions ≡ a.functions → meaning_of b q ≡ meaning_of a q →
    callee_of b q ≡ callee_of a q
callee_kept a b q f e = ap (callee_by b q) e ∙ ap (λ z. callee_by (record a { functions = z }) q (meaning_of a q)) f

-- what stands for a variable calls nothing
abbrev pub CallsNothing : Meaning → Type 0
CallsNothing m = (env : Env) (q : List ℕ) → callee_by env q (Some m) ≡ None

-- ---- of one name nothing is said

-- side by side, but for what that name stands for, and for arrays
pub record BesideBut (asked : Asked) (names : Names) (x : List ℕ) (bound : ℕ) (plain form : Env) : Type 0 where
  pub functions : form.functions ≡ plain.functions
  pub owner : form.owner ≡ plain.owner
  pub declared' : form.declared ≡ plain.declared
  pub flags : form.flags ≡ plain.flags
  pub in_body : form.in_body ≡ plain.in_body
  pub in_loop' : form.in_loop ≡ plain.in_loop
  pub in_switch' : form.in_switch ≡ plain.in_switch
  pub labels : form.labels ≡ plain.labels
  pub depth : length form.scopes ≡ length plain.scopes
  pub alike : (q : List ℕ) → has_point q ≡ false → Apart x q → StandsAlike (names q) q plain form
  pub narrow : (q : List ℕ) → width_in (names q) ≤ 16
  pub scopes : ScopesBeside bound plain.scopes form.scopes
  pub open' : 1 ≤ length plain.scopes
  pub unflagged : plain.flags ≡ false
  pub gives : AllGive asked plain
  pub alone : KnownAlone plain
  pub named : (q : List ℕ) → is_other (names q) ≡ false → IsName q

module _ (asked : Asked) (names : Names) (x : List ℕ) (n : ℕ) where
  pub but_begin : (p s : Env) → Beside asked names n p s → BesideBut asked names x n p s
  but_begin p s h = let y = h.plainly in record {
    functions = y.functions;
    owner = y.owner;
    declared' = y.declared;
    flags = y.flags;
    in_body = y.in_body;
    in_loop' = y.in_loop;
    in_switch' = y.in_switch;
    labels = y.labels;
    depth = y.depth;
    alike = λ q e a. y.names' q e;
    narrow = y.narrow;
    scopes = h.scopes;
    open' = h.open';
    unflagged = h.unflagged;
    gives = h.gives;
    alone = h.alone;
    named = h.named;
  }

  -- the plain form declares it
  pub but_plain : (p s p' : Env) (m : Meaning) → CallsNothing m → Declares p p' x m → BesideBut asked names x n p s →
      BesideBut asked names x n p' s
  but_plain p s p' m cn d h = record {
    functions = h.functions ∙ sym d.functions;
    owner = h.owner ∙ sym d.owner;
    declared' = h.declared' ∙ sym d.declared';
    flags = h.flags ∙ sym d.flags;
    in_body = h.in_body ∙ sym d.in_body;
    in_loop' = h.in_loop' ∙ sym d.in_loop';
    in_switch' = h.in_switch' ∙ sym d.in_switch';
    labels = h.labels ∙ sym d.labels;
    depth = h.depth ∙ sym (declares_length p p' x m h.open' d);
    alike = λ q e a. alike_kept (names q) q p s p' s (declares_other p p' x m h.open' d q a) refl (λ c. refl)
        (h.alike q e a);
    narrow = h.narrow;
    scopes = subst (λ z. ScopesBeside n z s.scopes) (sym d.scopes) (plain_scopes n p.scopes s.scopes x m h.scopes);
    open' = subst (λ z. 1 ≤ z) (sym (declares_length p p' x m h.open' d)) h.open';
    unflagged = d.flags ∙ h.unflagged;
    gives = λ q c e. gives_by q c (bytes_eq x q) refl e;
    alone = λ q i c k e. alone_by q i c k (bytes_eq x q) refl e;
    named = h.named;
  }
    where
      nothing : {A : Type 0} (q : List ℕ) (c : Callee) → bytes_eq x q ≡ true → callee_of p' q ≡ Some c → A
      nothing q c b e =
          let i : meaning_of p' q ≡ Some m = subst (λ z. meaning_of p' z ≡ Some m) ((bytes_decides x q).0 b)
          (declares_itself p p' x m h.open' d) in
          absurd (none-some c (sym (cn p' q) ∙ (sym (ap (callee_by p' q) i) ∙ e)))

      gives_by : (q : List ℕ) (c : Callee) (b : Bool) → bytes_eq x q ≡ b → callee_of p' q ≡ Some c →
          CalleeGives asked q c
      gives_by q c true a e = nothing q c a e
      gives_by q c false a e =
          h.gives q c (sym (callee_kept p p' q d.functions (declares_other p p' x m h.open' d q a)) ∙ e)

      alone_by : (q : List ℕ) (i : Intrinsic) (c : Callee) → intrinsic_in q ≡ Some i → (b : Bool) → bytes_eq x q ≡ b →
          callee_of p' q ≡ Some c → c ≡ known i
      alone_by q i c k true a e = nothing q c a e
      alone_by q i c k false a e =
          h.alone q i c k (sym (callee_kept p p' q d.functions (declares_other p p' x m h.open' d q a)) ∙ e)

  form_open : (p s : Env) → BesideBut asked names x n p s → 1 ≤ length s.scopes
  form_open p s h = subst (λ z. 1 ≤ z) (sym h.depth) h.open'

  -- what the unit without vectors declares beside it
  but_form : (p s s' : Env) (y : List ℕ) (m : Meaning) → Declares s s' y m →
      ((q : List ℕ) → has_point q ≡ false → Apart x q → Apart y q) →
      ((q : List ℕ) → has_point q ≡ false → Apart x q → (c : ℕ) → is_other (names q) ≡ false →
      Apart y (component_name q c)) →
      ScopesBeside n p.scopes (into_last s.scopes y (firm m)) → BesideBut asked names x n p s →
      BesideBut asked names x n p s'
  but_form p s s' y m d far parts sc h = record {
    functions = d.functions ∙ h.functions;
    owner = d.owner ∙ h.owner;
    declared' = d.declared' ∙ h.declared';
    flags = d.flags ∙ h.flags;
    in_body = d.in_body ∙ h.in_body;
    in_loop' = d.in_loop' ∙ h.in_loop';
    in_switch' = d.in_switch' ∙ h.in_switch';
    labels = d.labels ∙ h.labels;
    depth = declares_length s s' y m (form_open p s h) d ∙ h.depth;
    alike = λ q e a. by q e a (names q) (λ c o. parts q e a c o) (h.alike q e a);
    narrow = h.narrow;
    scopes = subst (λ z. ScopesBeside n p.scopes z) (sym d.scopes) sc;
    open' = h.open';
    unflagged = h.unflagged;
    gives = h.gives;
    alone = h.alone;
    named = h.named;
  }
    where
      by : (q : List ℕ) → has_point q ≡ false → Apart x q → (k : vectors.Kind) →
          ((c : ℕ) → is_other k ≡ false → Apart y (component_name q c)) → StandsAlike k q p s → StandsAlike k q p s'
      by q e a (Other b) g i = ap unnumbered (declares_other s s' y m (form_open p s h) d q (far q e a)) ∙ i
      by q e a (Pointer sp c v) g i = alike_kept (Pointer sp c v) q p s p s' refl
          (declares_other s s' y m (form_open p s h) d q (far q e a)) (λ c. declares_other s s' y m (form_open p s h) d
          (component_name q c) (g c refl)) i
      by q e a (Vectors v r) g i = alike_kept (Vectors v r) q p s p s' refl
          (declares_other s s' y m (form_open p s h) d q (far q e a)) (λ c. declares_other s s' y m (form_open p s h) d
          (component_name q c) (g c refl)) i

  -- a component of it
  pub but_component : (p s s' : Env) (c : ℕ) (m : Meaning) → IsName x → is_declared p x ≡ true →
      Declares s s' (component_name x c) m → BesideBut asked names x n p s → BesideBut asked names x n p s'
  but_component p s s' c m i l d h = but_form p s s' (component_name x c) m d
      (λ q e a. pointed_apart (component_name x c) q (component_point x c) e)
      (λ q e a k o. apart_from (component_name x c) (component_name q k)
      (λ z. other q a (component_of_one x q c k i.plain e z)))
      (form_scopes (λ z. is_firm (z x) ≡ true) n p.scopes s.scopes (component_name x c) m
      (component_scope n x c m i) (last_firm p.scopes x l) h.scopes) h
    where
      other : (q : List ℕ) → Apart x q → x ≡ q → ⊥
      other q a e = false≢true (sym a ∙ (bytes_decides x q).1 e)

  -- the name itself
  pub but_named : (p s s' : Env) (m : Meaning) → IsName x → is_declared p x ≡ true → Declares s s' x m →
      BesideBut asked names x n p s → BesideBut asked names x n p s'
  but_named p s s' m i l d h = but_form p s s' x m d (λ q e a. a)
      (λ q e a c o. plain_apart x (component_name q c) i.plain (component_point q c))
      (form_scopes (λ z. is_firm (z x) ≡ true) n p.scopes s.scopes x m (named_scope n x m i)
      (last_firm p.scopes x l) h.scopes) h

  -- then it stands for that
  pub but_done : (p s : Env) (k : vectors.Kind) → IsName x → length s.arrays ≡ length p.arrays →
      length s.tables ≡ length p.tables → width_in k ≤ 16 → StandsAlike k x p s → BesideBut asked names x n p s →
      Beside asked (with_name names x k) n p s
  but_done p s k i ar ta w st h = record {
    plainly = record {
      functions = h.functions;
      owner = h.owner;
      declared = h.declared';
      flags = h.flags;
      outside = h.unflagged;
      in_body = h.in_body;
      in_loop = h.in_loop';
      in_switch = h.in_switch';
      labels = h.labels;
      depth = h.depth;
      arrays = ar;
      tables = ta;
      names' = λ q e. alike_by q e (bytes_eq x q) refl;
      narrow = λ q. narrow_by q (bytes_eq x q);
    };
    scopes = h.scopes;
    open' = h.open';
    unflagged = h.unflagged;
    gives = h.gives;
    alone = h.alone;
    named = λ q o. named_by q (bytes_eq x q) refl o;
  }
    where
      alike_by : (q : List ℕ) → has_point q ≡ false → (b : Bool) → bytes_eq x q ≡ b →
          StandsAlike (if b then k else names q) q p s
      alike_by q e true a = subst (λ z. StandsAlike k z p s) ((bytes_decides x q).0 a) st
      alike_by q e false a = h.alike q e a

      narrow_by : (q : List ℕ) (b : Bool) → width_in (if b then k else names q) ≤ 16
      narrow_by q true = w
      narrow_by q false = h.narrow q

      named_by : (q : List ℕ) (b : Bool) → bytes_eq x q ≡ b → is_other (if b then k else names q) ≡ false → IsName q
      named_by q true a o = subst IsName ((bytes_decides x q).0 a) i
      named_by q false a o = h.named q o

  -- a name with a point is none of the source
  but_over : (p s : Env) → has_point x ≡ true → length s.arrays ≡ length p.arrays → length s.tables ≡ length p.tables →
      BesideBut asked names x n p s → Beside asked names n p s
  but_over p s i ar ta h = record {
    plainly = record {
      functions = h.functions;
      owner = h.owner;
      declared = h.declared';
      flags = h.flags;
      outside = h.unflagged;
      in_body = h.in_body;
      in_loop = h.in_loop';
      in_switch = h.in_switch';
      labels = h.labels;
      depth = h.depth;
      arrays = ar;
      tables = ta;
      names' = λ q e. h.alike q e (pointed_apart x q i e);
      narrow = h.narrow;
    };
    scopes = h.scopes;
    open' = h.open';
    unflagged = h.unflagged;
    gives = h.gives;
    alone = h.alone;
    named = h.named;
  }
