-- The lines of a function's block, one behind the other.
use Rattle.std.proofs.Common.{List, [], ◌≡◌, ℕ, suc, ◌≤◌, ◌^◌, Option, None, Some, Bool, true, false, refl, sym, ◌∙◌}
use Rattle.std.proofs.Common.{length}
use Rattle.std.proofs.Common.{subst, inl, inr, ◌⊎◌, arith}
use Rattle.cl_tree.specs.declared.tree.Form.{Form}
use Rattle.cl_tree.specs.declared.tree.Form.TheVariants as forms
use Rattle.cl_tree.specs.Syntax.{Syntax, node, Forest, none, more, joined, last_of}
use Rattle.cl_tree.specs.Nodes.{forest1}
use Rattle.cl_meaning.specs.declared.kind.Role.TheVariants as roles
use Rattle.cl_meaning.specs.Environment.{Env}
use Rattle.cl_meaning.specs.Visible.{inside, left, restored, before_labels}
use Rattle.cl_meaning.specs.Visible.{Before, later, behind, behind_parts, kind_of}
use Rattle.cl_meaning.specs.Faults.{Asked}
use Rattle.cl_check_sound.specs.Shape.{IsDeclarationOf, IsStatementOf, AreLinesOf}
use Rattle.cl_check_sound.specs.Sound.{SoundParts}
use Rattle.cl_short_vec.specs.declared.roles.Role.TheVariants.{Free}
use Rattle.cl_short_vec.specs.Kinds.{Names}
use Rattle.cl_short_vec.specs.Kinds as kinds
use Rattle.cl_short_vec.specs.Marks.{kind_by, kind_at}
use Rattle.cl_short_vec.specs.Roles.{role_of}
use Rattle.cl_short_vec.specs.Faults.{refusals}
use Rattle.cl_short_vec_faults.proofs.Refused.{parts_stay}
use Rattle.cl_short_vec.specs.declared.types.Vector.{Vector}
use Rattle.cl_short_vec.specs.Marks.{Marks, marking, marked, marked_parts}
use Rattle.cl_short_vec.specs.Unit.{block_line, block_lines, scalarised}
use Rattle.cl_short_vec_faults.specs.PlainForm.{plain_of, plains_of}
use Rattle.cl_short_vec_faults.specs.Plainly.{NoPoints}
use Rattle.cl_short_vec_faults.specs.SoundBut.{SoundBut, AllSoundBut}
use Rattle.cl_short_vec_faults.specs.Beside.{Beside}
use Rattle.cl_short_vec_faults.specs.Leaves.{LeavesFit, AllLeavesFit}
use Rattle.cl_short_vec_faults.specs.UnitLaw.{AllDeclaredNames}
use Rattle.cl_short_vec_faults.proofs.Ordered.{OrderedIn, ordered_in_le}
use Rattle.cl_short_vec_faults.proofs.TokenFacts.{AllFacts}
use Rattle.cl_short_vec_faults.proofs.Refused.{AllStay}
use Rattle.cl_short_vec_faults.proofs.OuterKept.{behind_outer, outer_length}
use Rattle.cl_short_vec_faults.proofs.Following.{Stands, Goes, DeclarationsFollow, StatementsFollow}
use Rattle.cl_short_vec_faults.proofs.SameBodies.{behind_body}

-- ---- a block

pub block_stays : (names : Names) (w : List ℕ) (f l : ℕ) (ts : Forest) →
    refusals Free (marked names (node forms.BlockNode w f l ts)) ≡ [] →
    AllStay (marked_parts forms.BlockNode ts names true ts)
unfolding marked kind_by role_of
block_stays names w f l ts r =
    parts_stay Free (node forms.BlockNode w f l ts) (kind_at (marked names (node forms.BlockNode w f l ts)))
    (marked_parts forms.BlockNode ts names true ts) (λ x y q. refl) r

pub block_leaves : (p : Env) (names : Names) (w : List ℕ) (f l : ℕ) (ts : Forest) →
    LeavesFit p (marked names (node forms.BlockNode w f l ts)) →
    AllLeavesFit (inside p forms.BlockNode w) forms.BlockNode true None
    (marked_parts forms.BlockNode ts names true ts)
unfolding LeavesFit marked
block_leaves p names w f l ts h = h.1

pub block_forms : (names : Names) (w : List ℕ) (f l : ℕ) (ts : Forest) →
    (scalarised (marked names (node forms.BlockNode w f l ts)) ≡
    node forms.BlockNode w f l (block_lines (marked_parts forms.BlockNode ts names true ts))) ×
    (plain_of (node forms.BlockNode w f l ts) ≡ node forms.BlockNode w f l (plains_of ts))
unfolding scalarised marked plain_of
block_forms names w f l ts = (refl, refl)

pub block_behind : (env : Env) (w : List ℕ) (f l : ℕ) (ts : Forest) → behind env (node forms.BlockNode w f l ts) ≡
    before_labels env (behind_parts (inside env forms.BlockNode w) forms.BlockNode true ts)
unfolding behind left restored
block_behind env w f l ts = refl

-- ---- lines that are joined

front_block : (env : Env) (front : Bool) (ps : Forest) →
    behind_parts env forms.BlockNode front ps ≡ behind_parts env forms.BlockNode false ps
unfolding behind_parts later
front_block env front none = refl
front_block env front (more p ps) = refl

pub joined_behind : (env : Env) (front : Bool) (xs ys : Forest) →
    behind_parts env forms.BlockNode front (joined xs ys) ≡
    behind_parts (behind_parts env forms.BlockNode false xs) forms.BlockNode false ys
unfolding behind_parts later
joined_behind env front none ys = front_block env front ys
joined_behind env front (more x xs) ys = joined_behind (behind env x) false xs ys

pub joined_sound : (asked : Asked) (env : Env) (b : Before) (xs ys : Forest) →
    AllSoundBut asked env forms.BlockNode b xs →
    ((c : Before) → AllSoundBut asked (behind_parts env forms.BlockNode false xs) forms.BlockNode c ys) →
    AllSoundBut asked env forms.BlockNode b (joined xs ys)
unfolding behind_parts later
joined_sound asked env b none ys h g = g b
joined_sound asked env b (more x xs) ys h g =
    (h.0, joined_sound asked (behind env x) (Some (last_of x)) xs ys h.1 g)

-- ---- a line

-- a statement declares nothing, and is one line
statement_names : (names : Names) (t : Syntax) → IsStatementOf true t → kinds.behind names t ≡ names
statement_names names (node forms.DeclareNode w f l ps) h = absurd h
statement_names names (node forms.ParamsNode w f l ps) h = absurd h
statement_names names (node forms.FunctionNode w f l ps) h = absurd h
statement_names names (node form w f l ps) h = refl

statement_line : (names : Names) (t u : Syntax) → IsStatementOf true t → block_line (marked names t) u ≡ forest1 u
unfolding marked
statement_line names (node forms.DeclareNode w f l ps) u h = absurd h
statement_line names (node form w f l ps) u h = refl

one_sound : (asked : Asked) (env : Env) (b : Before) (u : Syntax) → SoundBut asked env roles.Other u →
    AllSoundBut asked env forms.BlockNode b (forest1 u)
one_sound asked env b u s = (s, tt)

one_behind : (env : Env) (u : Syntax) → behind_parts env forms.BlockNode false (forest1 u) ≡ behind env u
unfolding behind_parts later
one_behind env u = refl

-- leaves of a part, and of those behind it
pub leaves_split : (p : Env) (form : Form) (front : Bool) (v : Option Vector) (names : Names) (t : Syntax)
    (ms : Marks) → AllLeavesFit p form front v (marking (marked names t) ms) → LeavesFit p (marked names t) ×
    AllLeavesFit (later (behind p (plain_of t)) form front (plain_of t) (kind_of p (plain_of t))) form false v ms
unfolding AllLeavesFit marked
leaves_split p form front v names (node head w f l ps) ms h = (h.1, h.2)

-- what is in hand at the end of some lines
pub record Ends (asked : Asked) (p s : Env) : Type 0 where
  pub names : Names
  pub bound : ℕ
  pub beside : Beside asked names bound p s

-- a statement among them goes on
abbrev pub StatementGoes : Syntax → Type 0
StatementGoes t = (asked : Asked) (names : Names) (n : ℕ) (p s : Env) → IsStatementOf true t → p.in_body ≡ false →
    2 ≤ length p.scopes → Stands asked names n p s Free roles.Other t →
    SoundBut asked s roles.Other (scalarised (marked names t)) ×
    Goes asked names t p (behind s (scalarised (marked names t)))

abbrev pub EachGoes : Forest → Type 0
EachGoes none = Unit {0}
EachGoes (more t ts) = StatementGoes t × EachGoes ts

pub each_goes : StatementsFollow → (ts : Forest) → EachGoes ts
each_goes statements none = tt
each_goes statements (more t ts) = ((λ asked names n p s. statements asked names n p s t), each_goes statements ts)

module _ (declarations : DeclarationsFollow) where
  line_follows : (asked : Asked) (names : Names) (n : ℕ) (p s : Env) (b : Before) (t : Syntax) → StatementGoes t →
      IsDeclarationOf true t ⊎ IsStatementOf true t → p.in_body ≡ false → 2 ≤ length p.scopes →
      Stands asked names n p s Free roles.Other t →
      AllSoundBut asked s forms.BlockNode b (block_line (marked names t) (scalarised (marked names t))) ×
      Goes asked (kinds.behind names t) t p
      (behind_parts s forms.BlockNode false (block_line (marked names t) (scalarised (marked names t))))
  line_follows asked names n p s b t go (inl h) e dp st = declarations asked names n p s b t h e st
  line_follows asked names n p s b t go (inr h) e dp st =
      let u = scalarised (marked names t) in
      let x = go asked names n p s h e dp st in
      let q = sym (statement_line names t u h) in (
        subst (AllSoundBut asked s forms.BlockNode b) q (one_sound asked s b u x.0),
        subst (λ z. Goes asked (kinds.behind names t) t p (behind_parts s forms.BlockNode false z)) q
            (subst (λ z. Goes asked z t p (behind_parts s forms.BlockNode false (forest1 u)))
            (sym (statement_names names t h)) (subst (λ z. Goes asked names t p z) (sym (one_behind s u)) x.1)),
      )

  pub lines_follow : (asked : Asked) (names : Names) (n m : ℕ) (p s : Env) (a b : Before) (front q r : Bool)
      (all ts : Forest) → EachGoes ts → AreLinesOf true ts → m ≤ 2 ^ 64 → p.in_body ≡ false → 2 ≤ length p.scopes →
      Beside asked names n p s → OrderedIn n ts m → AllFacts ts → NoPoints ts → AllDeclaredNames ts →
      AllStay (marked_parts forms.BlockNode all names front ts) →
      AllLeavesFit p forms.BlockNode front None (marked_parts forms.BlockNode all names front ts) →
      SoundParts asked p forms.BlockNode a (plains_of ts) →
      AllSoundBut asked s forms.BlockNode b (block_lines (marked_parts forms.BlockNode all names front ts)) ×
      Ends asked (behind_parts p forms.BlockNode q (plains_of ts))
      (behind_parts s forms.BlockNode r (block_lines (marked_parts forms.BlockNode all names front ts)))
  unfolding plains_of marked_parts block_lines behind_parts later
  lines_follow asked names n m p s a b front q r all none go h l e dp be o fa np dn st lf so =
      (tt, record { names = names; bound = n; beside = be })
  lines_follow asked names n m p s a b front q r all (more t ts) go h l e dp be o fa np dn st lf so =
      let t' = plain_of t in
      let u = scalarised (marked names t) in
      let xs = block_line (marked names t) u in
      let after = kinds.behind names t in
      let ys = block_lines (marked_parts forms.BlockNode all after false ts) in
      let p' = behind p t' in
      let s' = behind_parts s forms.BlockNode false xs in
      let w = leaves_split p forms.BlockNode front None names t (marked_parts forms.BlockNode all after false ts) lf in
      let fits = ordered_in_le ts (suc (last_of t)) m o.2 in
      let x = line_follows asked names n p s b t go.0 h.0 e dp (record {
        beside = be;
        ordered = o.1;
        behind' = o.0;
        few = omega arith;
        facts = fa.0;
        no_point = np.0;
        declared = dn.0;
        stays = st.0;
        leaves = w.0;
        sound = so.0;
      }) in
      let y = λ (c : Before). lines_follow asked after (suc (last_of t)) m p' s' (Some (last_of t')) c false false false
      all ts go.1 h.1 l (behind_body p t' ∙ e)
      (subst (λ z. 2 ≤ z) (sym (outer_length p.scopes p'.scopes (behind_outer t' p))) dp) x.1 o.2 fa.1 np.1 dn.1 st.1
      w.1 so.1 in (
        joined_sound asked s b xs ys x.0 (λ c. (y c).0),
        subst (Ends asked (behind_parts p' forms.BlockNode false (plains_of ts))) (sym (joined_behind s r xs ys))
            (y None).1,
      )
