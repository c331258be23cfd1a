-- What a walk through a tree gathers is what its nodes give.
use Rattle.std.proofs.Common.{◌≡◌, ◌<◌, ◌≤◌, ◌+◌, suc, length, drop, get_or, drop-cons, arith, ℕ, Bool, true, false}
use Rattle.std.proofs.Common.{List, [], ◌∷◌, ◌++◌, Option, None, Some, refl, ap, sym, ◌∙◌, subst}
use Rattle.std.proofs.lemmas.List.{append-nil, append_assoc, drop_all}
use Rattle.cl_tree.specs.declared.tree.Form.{Form}
use Rattle.wg_num.specs.declared.types.Place.{Place}
use Rattle.cl_tree.specs.declared.tree.Form.TheVariants as forms
use Rattle.cl_tree.specs.declared.tree.Tree.{Tree}
use Rattle.cl_tree.specs.Syntax.{Syntax, node, Forest, none, more, last_of, view, views}
use Rattle.cl_meaning.specs.declared.kind.Role.TheVariants as roles
use Rattle.cl_meaning.specs.Declarations.{form_of, word_of, parts_of}
use Rattle.cl_scope.specs.declared.environment.Environment as rust
use Rattle.cl_scope.specs.View.{env_of, visible_in}
use Rattle.cl_scope.specs.Walk.{entered, departed}
use Rattle.cl_faults.specs.View.{looked_in}
use Rattle.cl_check.specs.Walk.{kind_at}
use Rattle.cl_meaning.specs.declared.kind.Kind.{Kind}
use Rattle.cl_meaning.specs.declared.kind.Role.{Role}
use Rattle.cl_meaning.specs.Environment.{Env}
use Rattle.cl_meaning.specs.Kinds.{kind_step}
use Rattle.cl_meaning.specs.Visible.{Node, Before, is_front, role_of, inside, later, restored, left, behind}
use Rattle.cl_meaning.specs.Visible.{behind_parts, kind_of, kinds_of, in_order, parts_in_order, visible_at}
use Rattle.cl_meaning.specs.Faults.{Call, calls_of, missing_of, call_at, missing_at}
use Rattle.cl_check.specs.Gather.{node_at, own_calls, own_missing, given_in, given_among, GatheredAlong, Gathered}
use Rattle.cl_check.specs.Gather.{calls_by, missing_by}

-- ---- the calls of nodes in order

mutual
  unfolding in_order given_in

  pub calls_are : (env : Env) (role : Role) (t : Syntax) (rest : List Node) →
      calls_of (in_order env role t rest) ≡ given_in own_calls env t ++ calls_of rest
  calls_are env role (node form w f l parts) rest =
      calls_among_are (inside env form w) form None parts (record {
        visible = env;
        role = role;
        tree = node form w f l parts;
      } ∷ rest)
      ∙ sym (append_assoc (given_among own_calls (inside env form w) form true parts)
      (own_calls (node_at env (node form w f l parts))) (calls_of rest))

  pub calls_among_are : (env : Env) (form : Form) (b : Before) (parts : Forest) (rest : List Node) →
      calls_of (parts_in_order env form b parts rest) ≡ given_among own_calls env form (is_front b) parts ++
      calls_of rest
  calls_among_are env form b none rest = refl
  calls_among_are env form b (more p ps) rest =
      let next = later (behind env p) form (is_front b) p (kind_of env p) in
      calls_are env (role_of form b p) p (parts_in_order next form (Some (last_of p)) ps rest)
      ∙ (ap (λ z. given_in own_calls env p ++ z) (calls_among_are next form (Some (last_of p)) ps rest)
      ∙ sym (append_assoc (given_in own_calls env p) (given_among own_calls next form false ps) (calls_of rest)))

mutual
  unfolding in_order given_in

  pub missing_are : (env : Env) (role : Role) (t : Syntax) (rest : List Node) →
      missing_of (in_order env role t rest) ≡ given_in own_missing env t ++ missing_of rest
  missing_are env role (node form w f l parts) rest =
      missing_among_are (inside env form w) form None parts (record {
        visible = env;
        role = role;
        tree = node form w f l parts;
      } ∷ rest)
      ∙ sym (append_assoc (given_among own_missing (inside env form w) form true parts)
      (own_missing (node_at env (node form w f l parts))) (missing_of rest))

  pub missing_among_are : (env : Env) (form : Form) (b : Before) (parts : Forest) (rest : List Node) →
      missing_of (parts_in_order env form b parts rest) ≡ given_among own_missing env form (is_front b) parts ++
      missing_of rest
  missing_among_are env form b none rest = refl
  missing_among_are env form b (more p ps) rest =
      let next = later (behind env p) form (is_front b) p (kind_of env p) in
      missing_are env (role_of form b p) p (parts_in_order next form (Some (last_of p)) ps rest)
      ∙ (ap (λ z. given_in own_missing env p ++ z) (missing_among_are next form (Some (last_of p)) ps rest)
      ∙ sym (append_assoc (given_in own_missing env p) (given_among own_missing next form false ps) (missing_of rest)))

-- ---- part by part

pub gather_begun : (form : Form) (env : Env) (parts : Forest) (calls : List Call) (missing : List (List ℕ)) →
    GatheredAlong form env parts env true [] calls calls missing missing parts
gather_begun form env parts calls missing = record { environment = refl; kinds' = refl; calls' = refl; missing' = refl }

snoc : {A : Type 0} (xs : List A) (x : A) (ys : List A) → xs ++ x ∷ ys ≡ (xs ++ x ∷ []) ++ ys
snoc xs x ys = sym (append_assoc xs (x ∷ []) ys)

gather_step_plain : (form : Form) (env0 : Env) (parts0 : Forest) (env : Env) (front : Bool) (ks : List (Option Kind))
    (c0 c : List Call) (m0 m : List (List ℕ)) (p : Syntax) (ps : Forest) →
    GatheredAlong form env0 parts0 env front ks c0 c m0 m (more p ps) →
    GatheredAlong form env0 parts0 (later (behind env p) form front p (kind_of env p)) false (ks ++ kind_of env p ∷
    []) c0 (c ++ given_in own_calls env p) m0 (m ++ given_in own_missing env p) ps
unfolding behind_parts given_among
gather_step_plain form env0 parts0 env front ks c0 c m0 m p ps h = record {
  environment = h.environment;
  kinds' = h.kinds' ∙ snoc ks (kind_of env p) (kinds_of next form false ps);
  calls' = h.calls' ∙ sym (append_assoc c (given_in own_calls env p) (given_among own_calls next form false ps));
  missing' =
      h.missing' ∙ sym (append_assoc m (given_in own_missing env p) (given_among own_missing next form false ps));
}
  where
    next : Env
    next = later (behind env p) form front p (kind_of env p)

pub gather_step : (form : Form) (env0 : Env) (parts0 : Forest) (env : Env) (front : Bool) (ks : List (Option Kind))
    (c0 c : List Call) (m0 m : List (List ℕ)) (p : Syntax) (ps : Forest) (env' : Env) (k : Option Kind)
    (c' : List Call) (m' : List (List ℕ)) →
    GatheredAlong form env0 parts0 env front ks c0 c m0 m (more p ps) → Gathered env p c m env' k c' m' →
    GatheredAlong form env0 parts0 (later env' form front p k) false (ks ++ k ∷ []) c0 c' m0 m' ps
gather_step form env0 parts0 env front ks c0 c m0 m p ps env' k c' m' h g =
    subst (λ z. GatheredAlong form env0 parts0 (later z form front p k) false (ks ++ k ∷ []) c0 c' m0 m' ps)
    (sym g.environment)
    (subst (λ z. GatheredAlong form env0 parts0 (later (behind env p) form front p z) false (ks ++ z ∷ []) c0 c' m0 m'
    ps) (sym g.kind)
    (subst (λ z. GatheredAlong form env0 parts0 (later (behind env p) form front p (kind_of env p)) false
    (ks ++ kind_of env p ∷ []) c0 z m0 m' ps) (sym g.calls')
    (subst (λ z. GatheredAlong form env0 parts0 (later (behind env p) form front p (kind_of env p)) false
    (ks ++ kind_of env p ∷ []) c0 (c ++ given_in own_calls env p) m0 z ps) (sym g.missing')
    (gather_step_plain form env0 parts0 env front ks c0 c m0 m p ps h))))

-- ---- a tree

pub gathered : (form : Form) (w : List ℕ) (f l : ℕ) (parts : Forest) (env : Env) (c0 c1 c : List Call)
    (m0 m1 m : List (List ℕ)) (env1 : Env) (front : Bool) (ks : List (Option Kind)) (env' : Env) (k : Option Kind) →
    GatheredAlong form (inside env form w) parts env1 front ks c0 c1 m0 m1 none →
    env' ≡ left (restored form env env1) env1 form w f l parts ks →
    k ≡ kind_step (restored form env env1) form w parts ks →
    c ≡ c1 ++ own_calls (node_at env (node form w f l parts)) →
    m ≡ m1 ++ own_missing (node_at env (node form w f l parts)) →
    Gathered env (node form w f l parts) c0 m0 env' k c m
unfolding behind kind_of kinds_of given_in given_among
gathered form w f l parts env c0 c1 c m0 m1 m env1 front ks env' k h e d a b = record {
  environment =
      e ∙ sym (ap (λ z. left (restored form env z) z form w f l parts (kinds_of (inside env form w) form true parts))
      h.environment ∙ ap (λ z. left (restored form env env1) env1 form w f l parts z) kinds_are);
  kind =
      d ∙ sym (ap (λ z. kind_step (restored form env z) form w parts (kinds_of (inside env form w) form true parts))
      h.environment ∙ ap (λ z. kind_step (restored form env env1) form w parts z) kinds_are);
  calls' = a ∙ (ap (λ z. z ++ own_calls (node_at env (node form w f l parts))) (sym (h.calls' ∙ append-nil c1)) ∙
      append_assoc c0 (given_among own_calls (inside env form w) form true parts)
      (own_calls (node_at env (node form w f l parts))));
  missing' = b ∙ (ap (λ z. z ++ own_missing (node_at env (node form w f l parts))) (sym (h.missing' ∙
      append-nil m1)) ∙ append_assoc m0 (given_among own_missing (inside env form w) form true parts)
      (own_missing (node_at env (node form w f l parts))));
}
  where
    kinds_are : kinds_of (inside env form w) form true parts ≡ ks
    kinds_are = h.kinds' ∙ append-nil ks

-- ---- in the words of the code

calls_here : (n : Node) (form : Form) (w : List ℕ) → call_at n form w ≡ calls_by (visible_at n.visible n.tree) form w
calls_here n forms.CallNode w = refl
calls_here n _ w = refl

missing_here : (n : Node) (form : Form) (w : List ℕ) →
    missing_at n form w ≡ missing_by (visible_at n.visible n.tree) form w
missing_here n forms.CallNode w = refl
missing_here n _ w = refl

same_calls : (places : List Place) (e : rust.Environment) (form : Form) (w : List ℕ) →
    calls_by (env_of places e) form w ≡ calls_by (visible_in e) form w
same_calls places e forms.CallNode w = refl
same_calls places e _ w = refl

same_missing : (places : List Place) (e : rust.Environment) (form : Form) (w : List ℕ) →
    missing_by (env_of places e) form w ≡ missing_by (visible_in e) form w
same_missing places e forms.CallNode w = refl
same_missing places e _ w = refl

views_drop : (ts : List Tree) (i : ℕ) (t : Tree) → i < length ts → t ≡ get_or ts i t →
    views (drop i ts) ≡ more (view t) (views (drop (i + 1) ts))
views_drop ts i t h e =
    let one : suc i ≡ i + 1 = omega arith in
    ap (λ (l : List Tree). views l) (drop-cons ts i t h) ∙
    ap (λ (u : Tree). more (view u) (views (drop (suc i) ts))) (sym e) ∙
    ap (λ j. more (view t) (views (drop j ts))) one

pub gather_more : (form : Form) (env0 : Env) (ts : List Tree) (env : Env) (front : Bool) (ks : List (Option Kind))
    (c0 c : List Call) (m0 m : List (List ℕ)) (i : ℕ) (t : Tree) (envW : Env) (k : Option Kind) (c' : List Call)
    (m' : List (List ℕ)) (env2 : Env) (front2 : Bool) (ks2 : List (Option Kind)) →
    GatheredAlong form env0 (views ts) env front ks c0 c m0 m (views (drop i ts)) → i < length ts →
    t ≡ get_or ts i t → Gathered env (view t) c m envW k c' m' → env2 ≡ later envW form front (view t) k →
    front2 ≡ false → ks2 ≡ ks ++ k ∷ [] →
    GatheredAlong form env0 (views ts) env2 front2 ks2 c0 c' m0 m' (views (drop (i + 1) ts))
gather_more form env0 ts env front ks c0 c m0 m i t envW k c' m' env2 front2 ks2 h n e g ev fv kv =
    let h' = subst (λ z. GatheredAlong form env0 (views ts) env front ks c0 c m0 m z) (views_drop ts i t n e) h in
    let s =
    gather_step form env0 (views ts) env front ks c0 c m0 m (view t) (views (drop (i + 1) ts)) envW k c' m' h' g in
    subst (λ z. GatheredAlong form env0 (views ts) z front2 ks2 c0 c' m0 m' (views (drop (i + 1) ts))) (sym ev)
    (subst (λ z. GatheredAlong form env0 (views ts) (later envW form front (view t) k) z ks2 c0 c' m0 m'
    (views (drop (i + 1) ts))) (sym fv)
    (subst (λ z. GatheredAlong form env0 (views ts) (later envW form front (view t) k) false z c0 c' m0 m'
    (views (drop (i + 1) ts))) (sym kv) s))

pub gather_ended : (form : Form) (env0 : Env) (ts : List Tree) (env : Env) (front : Bool) (ks : List (Option Kind))
    (c0 c : List Call) (m0 m : List (List ℕ)) (i : ℕ) →
    GatheredAlong form env0 (views ts) env front ks c0 c m0 m (views (drop i ts)) → length ts ≤ i →
    GatheredAlong form env0 (views ts) env front ks c0 c m0 m none
gather_ended form env0 ts env front ks c0 c m0 m i h n =
    subst (λ (z : List Tree). GatheredAlong form env0 (views ts) env front ks c0 c m0 m (views z)) (drop_all i ts n) h

-- a tree, from its parts
pub tree_gathered : (t : Syntax) (form : Form) (places : List Place) (e : rust.Environment) (env envE : Env)
    (parts : Forest) (c0 c1 c : List Call) (m0 m1 m : List (List ℕ)) (env1 : Env) (front : Bool)
    (ks : List (Option Kind)) (env' : Env) (k : Option Kind) →
    form ≡ form_of t → envE ≡ entered env t → parts ≡ parts_of t →
    GatheredAlong form envE parts env1 front ks c0 c1 m0 m1 none →
    env_of places e ≡ restored (form_of t) env env1 → env' ≡ departed (env_of places e) env1 t ks →
    k ≡ kind_at (looked_in (env_of places e) roles.Other t ks) →
    c ≡ c1 ++ calls_by (visible_in e) (form_of t) (word_of t) →
    m ≡ m1 ++ missing_by (visible_in e) (form_of t) (word_of t) → Gathered env t c0 m0 env' k c m
unfolding behind_parts
tree_gathered (node form w f l parts) form' places e env envE parts' c0 c1 c m0 m1 m env1 front ks env' k x y z h r d
    b p q =
    let h' = subst (λ u. GatheredAlong u (inside env form w) parts env1 front ks c0 c1 m0 m1 none) x
    (subst (λ u. GatheredAlong form' u parts env1 front ks c0 c1 m0 m1 none) y
    (subst (λ u. GatheredAlong form' envE u env1 front ks c0 c1 m0 m1 none) z h)) in
    let at : visible_at env (node form w f l parts) ≡ env_of places e =
    ap (λ u. restored form env u) h'.environment ∙ sym r in
    gathered form w f l parts env c0 c1 c m0 m1 m env1 front ks env' k h'
    (d ∙ ap (λ u. left u env1 form w f l parts ks) r)
    (b ∙ ap (λ u. kind_step u form w parts ks) r)
    (p ∙ ap (λ u. c1 ++ u) (sym (calls_here (node_at env (node form w f l parts)) form w ∙
    (ap (λ u. calls_by u form w) at ∙ same_calls places e form w))))
    (q ∙ ap (λ u. m1 ++ u) (sym (missing_here (node_at env (node form w f l parts)) form w ∙
    (ap (λ u. missing_by u form w) at ∙ same_missing places e form w))))
