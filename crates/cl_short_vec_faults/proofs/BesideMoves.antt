-- What is visible goes on side by side into a statement, and out of it again.
use Rattle.std.proofs.Common.{◌≡◌, ℕ, suc, ◌≤◌, List, [], ◌∷◌, ◌++◌, length, take, Option, false}
use Rattle.std.proofs.Common.{refl, ap, sym, ◌∙◌, subst, arith}
use Rattle.cl_meaning.specs.Environment.{Env, Scope, Labels, empty_scope, meaning_of, meaning_in, found_in}
use Rattle.cl_meaning.specs.Environment.{or_else}
use Rattle.cl_meaning.specs.Kinds.{callee_of, callee_by, kind_of_meaning, on_one}
use Rattle.cl_meaning.specs.Visible.{opened, apart, in_loop, in_switch, before_labels}
use Rattle.cl_meaning.specs.Faults.{Asked}
use Rattle.cl_short_vec.specs.declared.kinds.Reach.TheVariants.{Value, Variable, Element}
use Rattle.cl_short_vec.specs.declared.kinds.Kind as vectors
use Rattle.cl_short_vec.specs.declared.kinds.Kind.TheVariants.{Vectors, Pointer, Other}
use Rattle.cl_short_vec.specs.Kinds.{Names}
use Rattle.cl_short_vec.specs.Nodes.{component_name}
use Rattle.cl_short_vec_faults.specs.Plainly.{unnumbered, StandsAlike, PointsAs, Plainly}
use Rattle.cl_short_vec_faults.specs.Law.{AllGive}
use Rattle.cl_short_vec_faults.specs.Parts.{KnownAlone}
use Rattle.cl_short_vec_faults.specs.Beside.{ScopeBeside, ScopesBeside, Beside}

-- ---- names, where they stand for the same

-- each name stands for what it stood for
abbrev pub SameMeanings : (before after : Env) → Type 0
SameMeanings before after = (q : List ℕ) → meaning_of after q ≡ meaning_of before q

pub alike_moved : (k : vectors.Kind) (q : List ℕ) (p s p' s' : Env) → SameMeanings p p' → SameMeanings s s' →
    StandsAlike k q p s → StandsAlike k q p' s'
alike_moved (Other y) q p s p' s' a b h = ap unnumbered (b q) ∙ h ∙ sym (ap unnumbered (a q))
alike_moved (Pointer sp c v) q p s p' s' a b (h, r) = (
  ap unnumbered (b q) ∙ h ∙ sym (ap unnumbered (a q)),
  subst (λ z. PointsAs sp c v (on_one z kind_of_meaning)) (sym (a q)) r,
)
alike_moved (Vectors v Variable) q p s p' s' a b (fixed, h, r) =
    (fixed, ap unnumbered (a q) ∙ h, λ c l. ap unnumbered (b (component_name q c)) ∙ r c l)
alike_moved (Vectors v Value) q p s p' s' a b h = absurd h
alike_moved (Vectors v (Element sp c)) q p s p' s' a b h = absurd h

-- ---- marks of what is around

-- two environments are like two others, but for marks that are the same in both
pub record Moved (p s p' s' : Env) : Type 0 where
  pub plain : SameMeanings p p'
  pub form : SameMeanings s s'
  pub functions : s'.functions ≡ p'.functions
  pub functions' : p'.functions ≡ p.functions
  pub owner : s'.owner ≡ p'.owner
  pub declared : s'.declared ≡ p'.declared
  pub flags : s'.flags ≡ p'.flags
  pub unflagged : p'.flags ≡ false
  pub in_body : s'.in_body ≡ p'.in_body
  pub in_loop' : s'.in_loop ≡ p'.in_loop
  pub in_switch' : s'.in_switch ≡ p'.in_switch
  pub labels : s'.labels ≡ p'.labels
  pub depth : length s'.scopes ≡ length p'.scopes
  pub arrays : length s'.arrays ≡ length p'.arrays
  pub tables : length s'.tables ≡ length p'.tables

pub plainly_moved : (names : Names) (p s p' s' : Env) → Moved p s p' s' → Plainly names p s → Plainly names p' s'
plainly_moved names p s p' s' m h = record {
  functions = m.functions;
  owner = m.owner;
  declared = m.declared;
  flags = m.flags;
  outside = m.unflagged;
  in_body = m.in_body;
  in_loop = m.in_loop';
  in_switch = m.in_switch';
  labels = m.labels;
  depth = m.depth;
  arrays = m.arrays;
  tables = m.tables;
  names' = λ q e. alike_moved (names q) q p s p' s' m.plain m.form (h.names' q e);
  narrow = h.narrow;
}

-- what a name calls depends on what it stands for and on the functions
callee_moved : (a b : Env) (q : List ℕ) → b.functions ≡ a.functions → meaning_of b q ≡ meaning_of a q →
    callee_of b q ≡ callee_of a q
callee_moved a b q f e = ap (callee_by b q) e ∙ ap (λ z. callee_by (record a { functions = z }) q (meaning_of a q)) f

pub gives_moved : (asked : Asked) (a b : Env) → b.functions ≡ a.functions → SameMeanings a b → AllGive asked a →
    AllGive asked b
gives_moved asked a b f e g q c h = g q c (sym (callee_moved a b q f (e q)) ∙ h)

pub alone_moved : (a b : Env) → b.functions ≡ a.functions → SameMeanings a b → KnownAlone a → KnownAlone b
alone_moved a b f e g q i c k h = g q i c k (sym (callee_moved a b q f (e q)) ∙ h)

-- ---- helping variables: those of tokens behind others

scope_later : (n m : ℕ) (s r : Scope) → n ≤ m → ScopeBeside n s r → ScopeBeside m s r
scope_later n m s r l h = record {
  declared = h.declared;
  components = h.components;
  helps = λ x b k. h.helps x (omega arith) k;
  parts = λ x b k c. h.parts x (omega arith) k c;
}

pub scopes_later : (n m : ℕ) (ss rs : List Scope) → n ≤ m → ScopesBeside n ss rs → ScopesBeside m ss rs
scopes_later n m [] [] l h = tt
scopes_later n m (s ∷ ss) (r ∷ rs) l h = (scope_later n m s r l h.0, scopes_later n m ss rs l h.1)
scopes_later n m [] (r ∷ rs) l h = absurd h
scopes_later n m (s ∷ ss) [] l h = absurd h

empty_beside : (n : ℕ) → ScopeBeside n empty_scope empty_scope
empty_beside n = record {
  declared = λ q h e. e;
  components = λ q h c e. e;
  helps = λ x b k. refl;
  parts = λ x b k c. refl;
}

pub scopes_opened : (n : ℕ) (ss rs : List Scope) → ScopesBeside n ss rs →
    ScopesBeside n (ss ++ empty_scope ∷ []) (rs ++ empty_scope ∷ [])
scopes_opened n [] [] h = (empty_beside n, tt)
scopes_opened n (s ∷ ss) (r ∷ rs) h = (h.0, scopes_opened n ss rs h.1)
scopes_opened n [] (r ∷ rs) h = absurd h
scopes_opened n (s ∷ ss) [] h = absurd h

-- ---- moves

pub beside_moved : (asked : Asked) (names : Names) (n m : ℕ) (p s p' s' : Env) → n ≤ m → Moved p s p' s' →
    ScopesBeside n p'.scopes s'.scopes → 1 ≤ length p'.scopes → Beside asked names n p s → Beside asked names m p' s'
beside_moved asked names n m p s p' s' l mv sc op h = record {
  plainly = plainly_moved names p s p' s' mv h.plainly;
  scopes = scopes_later n m p'.scopes s'.scopes l sc;
  open' = op;
  unflagged = mv.unflagged;
  gives = gives_moved asked p p' mv.functions' mv.plain h.gives;
  alone = alone_moved p p' mv.functions' mv.plain h.alone;
  named = h.named;
}

pub beside_later : (asked : Asked) (names : Names) (n m : ℕ) (p s : Env) → n ≤ m → Beside asked names n p s →
    Beside asked names m p s
beside_later asked names n m p s l h = record {
  plainly = h.plainly;
  scopes = scopes_later n m p.scopes s.scopes l h.scopes;
  open' = h.open';
  unflagged = h.unflagged;
  gives = h.gives;
  alone = h.alone;
  named = h.named;
}

-- where scopes are the same and marks are set on both sides
pub beside_marked : (asked : Asked) (names : Names) (n : ℕ) (p s p' s' : Env) → p'.scopes ≡ p.scopes →
    s'.scopes ≡ s.scopes → p'.functions ≡ p.functions → s'.functions ≡ s.functions → s'.owner ≡ p'.owner →
    s'.declared ≡ p'.declared → s'.flags ≡ p'.flags → p'.flags ≡ false → s'.in_body ≡ p'.in_body →
    s'.in_loop ≡ p'.in_loop →
    s'.in_switch ≡ p'.in_switch → s'.labels ≡ p'.labels → length s'.arrays ≡ length p'.arrays →
    length s'.tables ≡ length p'.tables → Beside asked names n p s → Beside asked names n p' s'
beside_marked asked names n p s p' s' a b f g ow de fl uf ib il is la ar ta h =
    beside_moved asked names n n p s p' s' (omega arith) (record {
      plain = λ q. ap (λ z. meaning_in (found_in z q)) a;
      form = λ q. ap (λ z. meaning_in (found_in z q)) b;
      functions = g ∙ h.plainly.functions ∙ sym f;
      functions' = f;
      owner = ow;
      declared = de;
      flags = fl;
      unflagged = uf;
      in_body = ib;
      in_loop' = il;
      in_switch' = is;
      labels = la;
      depth = ap length b ∙ h.plainly.depth ∙ sym (ap length a);
      arrays = ar;
      tables = ta;
    }) (subst (λ z. ScopesBeside n z s'.scopes) (sym a) (subst (λ z. ScopesBeside n p.scopes z) (sym b) h.scopes))
    (subst (λ z. 1 ≤ length z) (sym a) h.open') h

pub beside_apart : (asked : Asked) (names : Names) (n : ℕ) (p s : Env) → Beside asked names n p s →
    Beside asked names n (apart p) (apart s)
beside_apart asked names n p s h = let x = h.plainly in beside_marked asked names n p s (apart p) (apart s) refl refl
    refl refl x.owner x.declared x.flags h.unflagged x.in_body x.in_loop x.in_switch refl x.arrays x.tables h

pub beside_loop : (asked : Asked) (names : Names) (n : ℕ) (p s : Env) → Beside asked names n p s →
    Beside asked names n (in_loop p) (in_loop s)
beside_loop asked names n p s h = let x = h.plainly in beside_marked asked names n p s (in_loop p) (in_loop s) refl
    refl refl refl x.owner x.declared x.flags h.unflagged x.in_body refl x.in_switch refl x.arrays x.tables h

pub beside_switch : (asked : Asked) (names : Names) (n : ℕ) (p s : Env) → Beside asked names n p s →
    Beside asked names n (in_switch p) (in_switch s)
beside_switch asked names n p s h = let x = h.plainly in beside_marked asked names n p s (in_switch p) (in_switch s)
    refl refl refl refl x.owner x.declared x.flags h.unflagged x.in_body x.in_loop refl refl x.arrays x.tables h

pub beside_labels : (asked : Asked) (names : Names) (n : ℕ) (p s : Env) (a b : Option Labels) → b ≡ a →
    Beside asked names n p s → Beside asked names n (record p { labels = a }) (record s { labels = b })
beside_labels asked names n p s a b e h = let x = h.plainly in
    beside_marked asked names n p s (record p { labels = a }) (record s { labels = b })
    refl refl refl refl x.owner x.declared x.flags h.unflagged x.in_body x.in_loop x.in_switch e x.arrays x.tables h

-- a scope more
length_more : (ss : List Scope) (s : Scope) → length (ss ++ s ∷ []) ≡ length (s ∷ ss)
length_more [] s = refl
length_more (t ∷ ss) s = ap (λ z. suc z) (length_more ss s)

found_opened : (ss : List Scope) (q : List ℕ) → found_in (ss ++ empty_scope ∷ []) q ≡ found_in ss q
found_opened [] q = refl
found_opened (s ∷ ss) q = ap (λ z. or_else z (s q)) (found_opened ss q)

pub beside_opened : (asked : Asked) (names : Names) (n : ℕ) (p s : Env) → Beside asked names n p s →
    Beside asked names n (opened p) (opened s)
beside_opened asked names n p s h =
    let x = h.plainly in
    beside_moved asked names n n p s (opened p) (opened s) (omega arith) (record {
      plain = λ q. ap meaning_in (found_opened p.scopes q);
      form = λ q. ap meaning_in (found_opened s.scopes q);
      functions = x.functions;
      functions' = refl;
      owner = x.owner;
      declared = x.declared;
      flags = x.flags;
      unflagged = h.unflagged;
      in_body = x.in_body;
      in_loop' = x.in_loop;
      in_switch' = x.in_switch;
      labels = x.labels;
      depth = length_more s.scopes empty_scope ∙ ap (λ z. suc z) x.depth ∙
          sym (length_more p.scopes empty_scope);
      arrays = x.arrays;
      tables = x.tables;
    }) (scopes_opened n p.scopes s.scopes h.scopes) (let e = length_more p.scopes empty_scope in omega arith) h

-- out of a statement: behind its parts names stand for what they stood for in front of it
pub beside_left : (asked : Asked) (names inner : Names) (n m : ℕ) (p s ip is : Env) → n ≤ m →
    take (length p.scopes) ip.scopes ≡ p.scopes → take (length s.scopes) is.scopes ≡ s.scopes →
    ip.functions ≡ p.functions → Plainly inner ip is → Beside asked names n p s →
    Beside asked names m (before_labels p ip) (before_labels s is)
beside_left asked names inner n m p s ip is l a b f y h =
    let x = h.plainly in
    beside_moved asked names n m p s (before_labels p ip) (before_labels s is) l (record {
      plain = λ q. ap (λ z. meaning_in (found_in z q)) a;
      form = λ q. ap (λ z. meaning_in (found_in z q)) b;
      functions = y.functions;
      functions' = f;
      owner = x.owner;
      declared = x.declared;
      flags = x.flags;
      unflagged = h.unflagged;
      in_body = x.in_body;
      in_loop' = x.in_loop;
      in_switch' = x.in_switch;
      labels = x.labels;
      depth = ap length b ∙ x.depth ∙ sym (ap length a);
      arrays = y.arrays;
      tables = y.tables;
    }) (subst (λ z. ScopesBeside n z (before_labels s is).scopes) (sym a)
    (subst (λ z. ScopesBeside n p.scopes z) (sym b) h.scopes)) (subst (λ z. 1 ≤ length z) (sym a) h.open') h

pub beside_closed : (asked : Asked) (names inner : Names) (n m : ℕ) (p s ip is : Env) → n ≤ m →
    take (length p.scopes) ip.scopes ≡ p.scopes → take (length s.scopes) is.scopes ≡ s.scopes →
    ip.functions ≡ p.functions → Beside asked inner m ip is → Beside asked names n p s →
    Beside asked names m (before_labels p ip) (before_labels s is)
beside_closed asked names inner n m p s ip is l a b f i h =
    beside_left asked names inner n m p s ip is l a b f i.plainly h
