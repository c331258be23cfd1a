-- In a block of its own a statement sees what it sees around it, and no name is declared there yet.
use Rattle.std.proofs.Common.{◌≡◌, ℕ, suc, ◌≤◌, true, false, List, [], ◌∷◌, ◌++◌, length, take, None}
use Rattle.std.proofs.Common.{if◌then◌else◌, refl, ap, sym, ◌∙◌, subst, arith}
use Rattle.cl_tree.specs.declared.tree.Form.TheVariants as forms
use Rattle.cl_tree.specs.Syntax.{node, Forest}
use Rattle.cl_meaning.specs.Environment.{Env, Scope, empty_scope, in_last, found_in, meaning_in, is_declared, is_firm}
use Rattle.cl_meaning.specs.Visible.{opened, apart, in_block, before_labels, inside, left, restored, behind}
use Rattle.cl_meaning.specs.Visible.{behind_parts}
use Rattle.cl_short_vec.specs.Kinds.{Names}
use Rattle.cl_short_vec_faults.specs.Plainly.{Plainly}
use Rattle.cl_short_vec_faults.proofs.LineSeen.{alike_opened, stands_alike, stands_moved}
use Rattle.cl_short_vec_faults.proofs.LineSteps.{behind_lines, parts_behind}
use Rattle.cl_short_vec.specs.Nodes.{component_name}

-- the block of a statement
abbrev pub own_block : Env → Env
own_block env = opened (apart env)

pub block_is : (env : Env) → env.in_body ≡ false → in_block env ≡ own_block env
block_is env h = ap (λ b. if b then record env { in_body = false; labels = None } else opened (apart env)) h

one_more : (xs : List Scope) (x : Scope) → length (xs ++ x ∷ []) ≡ suc (length xs)
one_more [] x = refl
one_more (y ∷ xs) x = ap suc (one_more xs x)

pub inner_block : (env : Env) → 2 ≤ length env.scopes → 2 ≤ length (own_block env).scopes
inner_block env h = subst (λ z. 2 ≤ z) (sym (one_more env.scopes empty_scope)) (omega (arith, h))

last_empty : (ss : List Scope) (q : List ℕ) → in_last (ss ++ empty_scope ∷ []) q ≡ None
last_empty [] q = refl
last_empty (s ∷ []) q = refl
last_empty (s ∷ (r ∷ rs)) q = last_empty (r ∷ rs) q

pub fresh_block : (env : Env) (q : List ℕ) → is_declared (own_block env) q ≡ false
fresh_block env q = ap is_firm (last_empty env.scopes q)

pub plainly_block : (names : Names) (p s : Env) → Plainly names p s → Plainly names (own_block p) (own_block s)
plainly_block names p s h = record {
  functions = h.functions;
  owner = h.owner;
  declared = h.declared;
  flags = h.flags;
  outside = h.outside;
  in_body = h.in_body;
  in_loop = h.in_loop;
  in_switch = h.in_switch;
  labels = refl;
  depth = one_more s.scopes empty_scope ∙ ap suc h.depth ∙ sym (one_more p.scopes empty_scope);
  arrays = h.arrays;
  tables = h.tables;
  names' = λ q u. stands_alike (names q) q p s (own_block p) (own_block s) (alike_opened p) (alike_opened s)
      (h.names' q u);
  narrow = h.narrow;
}

-- ---- behind the block

pub block_behind : (env : Env) (w : List ℕ) (f l : ℕ) (parts : Forest) → env.in_body ≡ false →
    behind env (node forms.BlockNode w f l parts) ≡ before_labels env (behind_lines (own_block env) parts)
unfolding behind behind_parts left restored inside
block_behind env w f l parts h =
    ap (λ z. before_labels env (behind_parts z forms.BlockNode true parts)) (block_is env h) ∙
    ap (before_labels env) (parts_behind (own_block env) true parts)

take_first : (xs : List Scope) (y : Scope) → take (length xs) (xs ++ y ∷ []) ≡ xs
take_first [] y = refl
take_first (x ∷ xs) y = ap (λ z. x ∷ z) (take_first xs y)

-- what the block declares is not visible behind it
pub block_scopes : (env inner : Env) (y : Scope) → inner.scopes ≡ env.scopes ++ y ∷ [] →
    (before_labels env inner).scopes ≡ env.scopes
block_scopes env inner y h = ap (take (length env.scopes)) h ∙ take_first env.scopes y

pub plainly_behind : (names : Names) (plain env inner : Env) (y : Scope) → inner.scopes ≡ env.scopes ++ y ∷ [] →
    Plainly names plain env → Plainly names (own_block plain) inner → Plainly names plain (before_labels env inner)
plainly_behind names plain env inner y h a b = let s = block_scopes env inner y h in record {
  functions = b.functions;
  owner = a.owner;
  declared = a.declared;
  flags = a.flags;
  outside = a.outside;
  in_body = a.in_body;
  in_loop = a.in_loop;
  in_switch = a.in_switch;
  labels = a.labels;
  depth = ap (λ (z : List Scope). length z) s ∙ a.depth;
  arrays = b.arrays;
  tables = b.tables;
  names' = λ q u. stands_moved (names q) q plain env plain (before_labels env inner) refl
      (ap (λ z. meaning_in (found_in z q)) s) (λ c. ap (λ z. meaning_in (found_in z (component_name q c))) s)
      (a.names' q u);
  narrow = a.narrow;
}
