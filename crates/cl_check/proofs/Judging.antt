-- From the code's steps to what is walked through.
use Rattle.std.proofs.Common.{◌≡◌, ◌<◌, ◌≤◌, ℕ, suc, ◌+◌, List, [], ◌∷◌, ◌++◌, length, drop, get_or, Option, None}
use Rattle.std.proofs.Common.{Some, Result, Ok, Err, IfOk, refl, ap, sym, ◌∙◌, subst, arith, drop-cons}
use Rattle.std.proofs.lemmas.List.{drop_all}
use Rattle.wg_num.specs.declared.types.Place.{Place}
use Rattle.cl_tree.specs.declared.tree.Form.{Form}
use Rattle.cl_tree.specs.declared.tree.Tree.{Tree}
use Rattle.cl_tree.specs.declared.tree.Tree.TheViews.{out-Tree}
use Rattle.cl_tree.specs.Syntax.{Syntax, Forest, none, more, view, views, first_of, last_of}
use Rattle.cl_meaning.proofs.Views.{view_out}
use Rattle.cl_meaning.specs.declared.fault.Fault.{Fault}
use Rattle.cl_meaning.specs.declared.kind.Kind.{Kind}
use Rattle.cl_meaning.specs.declared.kind.Role.{Role}
use Rattle.cl_meaning.specs.Environment.{Env}
use Rattle.cl_meaning.specs.Visible.{Before, is_front, role_of, later, restored}
use Rattle.cl_meaning.specs.Declarations.{form_of, parts_of}
use Rattle.cl_meaning.specs.Faults.{Asked, token_of}
use Rattle.cl_meaning.specs.Typed.{Piece}
use Rattle.cl_scope.specs.declared.environment.Environment as rust
use Rattle.cl_scope.specs.View.{env_of}
use Rattle.cl_scope.specs.Walk.{entered, Inner, inner_at}
use Rattle.cl_faults.specs.View.{looked_in}
use Rattle.cl_faults.specs.Least.{IsLeast}
use Rattle.cl_check.specs.declared.error.CheckError.{CheckError}
use Rattle.cl_check.specs.declared.error.CheckError.TheVariants as errors
use Rattle.cl_check.specs.Walk.{Walked, Faulted, IfFault, IfReported, Progress, PartsWalked, PartsAlong, PartsFaulted}
use Rattle.cl_check.specs.Walk.{IsBuilt, IsJudged, IsAtFault, kind_at, kinds_in}
use Rattle.cl_check.proofs.Walking.{begun, step, parts_stop, parts_of_tree, tree_walked, tree_faulted}

-- ---- a tree and its parts

pub form_is : (t : Tree) → (out-Tree t).form ≡ form_of (view t)
form_is t = sym (ap form_of (view_out t))

pub parts_is : (t : Tree) → views (out-Tree t).parts.items ≡ parts_of (view t)
parts_is t = sym (ap parts_of (view_out t))

pub first_is : (t : Tree) → (out-Tree t).first ≡ first_of (view t)
first_is t = sym (ap first_of (view_out t))

pub views_drop : (ts : List Tree) (i : ℕ) (t : Tree) → i < length ts → t ≡ get_or ts i t →
    views (drop i ts) ≡ more (view t) (views (drop (i + 1) ts))
views_drop ts i t h e =
    let one : suc i ≡ i + 1 = omega arith in
    ap (λ (l : List Tree). views l) (drop-cons ts i t h) ∙
    ap (λ (u : Tree). more (view u) (views (drop (suc i) ts))) (sym e) ∙
    ap (λ j. more (view t) (views (drop j ts))) one

-- ---- errors

pub fault_reported : (A : Type 0) (e : CheckError) (P Q : Fault → ℕ → Type 0) → IfReported e Q →
    ((k : Fault) (token : ℕ) → Q k token → P k token) → IfFault {A = A} (Err e) P
fault_reported A (errors.Fault k token) P Q h f = f k token h
fault_reported A errors.Memory P Q h f = tt

pub fault_then : (A B : Type 0) (e : CheckError) (P Q : Fault → ℕ → Type 0) → IfFault {A = A} (Err e) P →
    ((k : Fault) (token : ℕ) → P k token → Q k token) → IfFault {A = B} (Err e) Q
fault_then A B (errors.Fault k token) P Q h f = f k token h
fault_then A B errors.Memory P Q h f = tt

pub fault_onto : {A : Type 0} (r : Result A CheckError) (P Q : Fault → ℕ → Type 0) → IfFault r P →
    ((k : Fault) (token : ℕ) → P k token → Q k token) → IfFault r Q
fault_onto (Ok a) P Q h f = tt
fault_onto (Err (errors.Fault k token)) P Q h f = f k token h
fault_onto (Err errors.Memory) P Q h f = tt

pub ok_onto : {A E : Type 0} (r : Result A E) (P Q : A → Type 0) → IfOk r P → ((a : A) → P a → Q a) → IfOk r Q
ok_onto (Ok a) P Q h f = f a h
ok_onto (Err e) P Q h f = tt

-- ---- a node

pub at_fault_reported : (asked : Asked) (end : ℕ) (places : List Place) (e : rust.Environment) (role : Role)
    (t : Syntax) (ks ks1 : List (Option Kind)) (o : Option Fault) (fault k : Fault) (first token : ℕ) →
    ks1 ≡ ks → ((ps : List Place) → IsLeast asked (looked_in (env_of ps e) role t ks1) o) → o ≡ Some fault →
    k ≡ fault → token ≡ token_of end fault first → first ≡ first_of t →
    IsAtFault asked end (looked_in (env_of places e) role t ks) (first_of t) k token
at_fault_reported asked end places e role t ks ks1 o fault k first token s h d f g i = record {
  least = subst (λ z. IsLeast asked (looked_in (env_of places e) role t ks) (Some z)) (sym f)
      (subst (λ z. IsLeast asked (looked_in (env_of places e) role t z) (Some fault)) s
      (subst (λ z. IsLeast asked (looked_in (env_of places e) role t ks1) z) d (h places)));
  place = g ∙ (ap (λ z. token_of end z first) (sym f) ∙ ap (token_of end k) i);
}

pub judged : (asked : Asked) (places : List Place) (e : rust.Environment) (end : Env) (sites : List Place)
    (role : Role) (t : Syntax) (done : List Piece) (ks ks1 ks2 : List (Option Kind)) (o : Option Fault)
    (kind : Option Kind) (env' : Env) (sites' : List Place) (p : Piece) →
    ks1 ≡ ks → ks2 ≡ ks → ((ps : List Place) → IsLeast asked (looked_in (env_of ps e) role t ks1) o) → o ≡ None →
    ((ps : List Place) → kind ≡ kind_at (looked_in (env_of ps e) role t ks1)) →
    IsBuilt (env_of places e) end sites t done ks2 kind env' sites' p →
    IsJudged asked (env_of places e) end sites role t done ks env' sites' p
judged asked places e end sites role t done ks ks1 ks2 o kind env' sites' p s r h d g x = record {
  sound = subst (λ z. IsLeast asked (looked_in (env_of places e) role t z) None) s
      (subst (λ z. IsLeast asked (looked_in (env_of places e) role t ks1) z) d (h places));
  built = subst (λ z. IsBuilt (env_of places e) end sites t done ks z env' sites' p) (g places ∙
      ap (λ z. kind_at (looked_in (env_of places e) role t z)) s)
      (subst (λ z. IsBuilt (env_of places e) end sites t done z kind env' sites' p) r x);
}

-- ---- parts

pub along_begun : (asked : Asked) (end : ℕ) (form : Form) (env : Env) (sites : List Place) (parts : Forest) →
    PartsAlong asked end form env sites parts env sites None [] [] parts
along_begun asked end form env sites parts = record { progress = begun asked end form env sites parts; kinds' = refl }

kinds_added : (ks : List (Option Kind)) (done : List Piece) (p : Piece) → ks ≡ kinds_in done →
    ks ++ p.kind ∷ [] ≡ kinds_in (done ++ p ∷ [])
kinds_added ks done p h = ap (λ z. z ++ p.kind ∷ []) h ∙ added done
  where
    added : (ds : List Piece) → kinds_in ds ++ p.kind ∷ [] ≡ kinds_in (ds ++ p ∷ [])
    added [] = refl
    added (d ∷ ds) = ap (λ z. d.kind ∷ z) (added ds)

pub along_more : (asked : Asked) (end : ℕ) (form : Form) (env0 : Env) (sites0 : List Place) (ts : List Tree)
    (env1 : Env) (sites1 : List Place) (b : Before) (done : List Piece) (ks : List (Option Kind)) (i : ℕ) (t : Tree)
    (envW : Env) (sites' : List Place) (p : Piece) (env2 : Env) (b2 : Before) (done2 : List Piece)
    (ks2 : List (Option Kind)) (role : Role) →
    PartsAlong asked end form env0 sites0 (views ts) env1 sites1 b done ks (views (drop i ts)) → i < length ts →
    t ≡ get_or ts i t → role ≡ role_of form b (view t) → Walked asked end env1 sites1 role (view t) envW sites' p →
    env2 ≡ later envW form (is_front b) (view t) p.kind → b2 ≡ Some (last_of (view t)) → done2 ≡ done ++ p ∷ [] →
    ks2 ≡ ks ++ p.kind ∷ [] →
    PartsAlong asked end form env0 sites0 (views ts) env2 sites' b2 done2 ks2 (views (drop (i + 1) ts))
along_more asked end form env0 sites0 ts env1 sites1 b done ks i t envW sites' p env2 b2 done2 ks2 role h n e r w ev
    bv dv kv =
    let h' : PartsAlong asked end form env0 sites0 (views ts) env1 sites1 b done ks
    (more (view t) (views (drop (i + 1) ts))) =
    subst (λ z. PartsAlong asked end form env0 sites0 (views ts) env1 sites1 b done ks z) (views_drop ts i t n e)
    h in
    let s = step asked end form env0 sites0 (views ts) env1 sites1 b done (view t) (views (drop (i + 1) ts)) envW
    sites' p h'.progress (subst (λ z. Walked asked end env1 sites1 z (view t) envW sites' p) r w) in
    record {
      progress = subst (λ z. Progress asked end form env0 sites0 (views ts) z sites' b2 done2
          (views (drop (i + 1) ts))) (sym ev)
          (subst (λ z. Progress asked end form env0 sites0 (views ts) (later envW form (is_front b) (view t) p.kind)
          sites' z done2 (views (drop (i + 1) ts))) (sym bv)
          (subst (λ z. Progress asked end form env0 sites0 (views ts) (later envW form (is_front b) (view t) p.kind)
          sites' (Some (last_of (view t))) z (views (drop (i + 1) ts))) (sym dv) s));
      kinds' = kv ∙ (kinds_added ks done p h'.kinds' ∙ ap (λ z. kinds_in z) (sym dv));
    }

pub along_stopped : (asked : Asked) (end : ℕ) (form : Form) (env0 : Env) (sites0 : List Place) (ts : List Tree)
    (env1 : Env) (sites1 : List Place) (b : Before) (done : List Piece) (ks : List (Option Kind)) (i : ℕ) (t : Tree)
    (role : Role) (k : Fault) (token : ℕ) →
    PartsAlong asked end form env0 sites0 (views ts) env1 sites1 b done ks (views (drop i ts)) → i < length ts →
    t ≡ get_or ts i t → role ≡ role_of form b (view t) → Faulted asked end env1 role (view t) k token →
    PartsFaulted asked end form env0 (views ts) k token
along_stopped asked end form env0 sites0 ts env1 sites1 b done ks i t role k token h n e r x =
    let h' : PartsAlong asked end form env0 sites0 (views ts) env1 sites1 b done ks
    (more (view t) (views (drop (i + 1) ts))) =
    subst (λ z. PartsAlong asked end form env0 sites0 (views ts) env1 sites1 b done ks z) (views_drop ts i t n e)
    h in
    parts_stop asked end form env0 sites0 (views ts) env1 sites1 b done (view t) (views (drop (i + 1) ts)) k token
    h'.progress (subst (λ z. Faulted asked end env1 z (view t) k token) r x)

pub along_done : (asked : Asked) (end : ℕ) (form : Form) (env0 : Env) (sites0 : List Place) (ts : List Tree)
    (env1 : Env) (sites1 : List Place) (b : Before) (done : List Piece) (ks : List (Option Kind)) (i : ℕ) →
    PartsAlong asked end form env0 sites0 (views ts) env1 sites1 b done ks (views (drop i ts)) → length ts ≤ i →
    PartsWalked asked end form env0 sites0 (views ts) env1 sites1 b done ks
along_done asked end form env0 sites0 ts env1 sites1 b done ks i h n =
    let h' : PartsAlong asked end form env0 sites0 (views ts) env1 sites1 b done ks none =
    subst (λ (z : List Tree). PartsAlong asked end form env0 sites0 (views ts) env1 sites1 b done ks (views z))
    (drop_all i ts n) h in
    record { progress = h'.progress; kinds' = h'.kinds' }

-- ---- a tree

moved : (asked : Asked) (end : ℕ) (env0 : Env) (sites0 : List Place) (t : Syntax) (form : Form) (envE : Env)
    (parts : Forest) (env1 : Env) (sites1 : List Place) (b : Before) (done : List Piece) (ks : List (Option Kind)) →
    form ≡ form_of t → envE ≡ entered env0 t → parts ≡ parts_of t →
    PartsWalked asked end form envE sites0 parts env1 sites1 b done ks →
    PartsWalked asked end (form_of t) (entered env0 t) sites0 (parts_of t) env1 sites1 b done ks
moved asked end env0 sites0 t form envE parts env1 sites1 b done ks f e p h =
    subst (λ z. PartsWalked asked end z (entered env0 t) sites0 (parts_of t) env1 sites1 b done ks) f
    (subst (λ z. PartsWalked asked end form z sites0 (parts_of t) env1 sites1 b done ks) e
    (subst (λ z. PartsWalked asked end form envE sites0 z env1 sites1 b done ks) p h))

pub tree_done : (asked : Asked) (end : ℕ) (env0 : Env) (sites0 : List Place) (role : Role) (t : Syntax) (form : Form)
    (envE : Env) (parts : Forest) (env1 : Env) (sites1 : List Place) (b : Before) (done : List Piece)
    (ks : List (Option Kind)) (envR : Env) (inner : Inner) (env' : Env) (sites' : List Place) (p : Piece) →
    form ≡ form_of t → envE ≡ entered env0 t → parts ≡ parts_of t →
    PartsWalked asked end form envE sites0 parts env1 sites1 b done ks → envR ≡ restored (form_of t) env0 env1 →
    inner ≡ inner_at (form_of t) env1 →
    ((e : Env) → inner ≡ inner_at (form_of t) e → IsJudged asked envR e sites1 role t done ks env' sites' p) →
    Walked asked end env0 sites0 role t env' sites' p
tree_done asked end env0 sites0 role t form envE parts env1 sites1 b done ks envR inner env' sites' p f e q h r i j =
    tree_walked asked end env0 sites0 role t env1 sites1 b done ks env' sites' p
    (moved asked end env0 sites0 t form envE parts env1 sites1 b done ks f e q h)
    (subst (λ z. IsJudged asked z env1 sites1 role t done ks env' sites' p) r (j env1 i))

pub tree_at_fault : (asked : Asked) (end : ℕ) (env0 : Env) (sites0 : List Place) (role : Role) (t : Syntax)
    (form : Form) (envE : Env) (parts : Forest) (env1 : Env) (sites1 : List Place) (b : Before) (done : List Piece)
    (ks : List (Option Kind)) (envR : Env) (k : Fault) (token : ℕ) →
    form ≡ form_of t → envE ≡ entered env0 t → parts ≡ parts_of t →
    PartsWalked asked end form envE sites0 parts env1 sites1 b done ks → envR ≡ restored (form_of t) env0 env1 →
    IsAtFault asked end (looked_in envR role t ks) (first_of t) k token → Faulted asked end env0 role t k token
tree_at_fault asked end env0 sites0 role t form envE parts env1 sites1 b done ks envR k token f e q h r x =
    tree_faulted asked end env0 sites0 role t env1 sites1 b done ks k token
    (moved asked end env0 sites0 t form envE parts env1 sites1 b done ks f e q h)
    (subst (λ z. IsAtFault asked end (looked_in z role t ks) (first_of t) k token) r x)

pub tree_in_parts : (asked : Asked) (end : ℕ) (env0 : Env) (role : Role) (t : Syntax) (form : Form) (envE : Env)
    (parts : Forest) (k : Fault) (token : ℕ) →
    form ≡ form_of t → envE ≡ entered env0 t → parts ≡ parts_of t → PartsFaulted asked end form envE parts k token →
    Faulted asked end env0 role t k token
tree_in_parts asked end env0 role t form envE parts k token f e q h =
    parts_of_tree asked end env0 role t k token
    (subst (λ z. PartsFaulted asked end z (entered env0 t) (parts_of t) k token) f
    (subst (λ z. PartsFaulted asked end form z (parts_of t) k token) e
    (subst (λ z. PartsFaulted asked end form envE z k token) q h)))
