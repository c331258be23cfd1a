-- Nodes and trees in which no node is at fault; and what the calls of a unit have to do with its faults.
use Rattle.std.proofs.Common.{◌≡◌, ℕ, List, [], ◌∷◌, ◌++◌, Option, None, Some, Bool, true, false, not}
use Rattle.std.proofs.Common.{◌||◌, refl, sym, ◌∙◌, subst, inl, inr, ◌⊎◌}
use Rattle.std.proofs.lemmas.Bool.{false≢true}
use Rattle.std.proofs.lemmas.Slice.Eq.{bytes_eq-Decides}
use Rattle.std.specs.Str.{bytes_eq}
use Rattle.cl_model.specs.Lists.{Each, IsOneOf}
use Rattle.cl_tree.specs.declared.tree.Form.{Form}
use Rattle.cl_tree.specs.declared.tree.Form.TheVariants as forms
use Rattle.cl_tree.specs.Syntax.{Syntax, node, Forest, none, more, last_of}
use Rattle.cl_meaning.specs.Spelling.{name_in}
use Rattle.cl_meaning.specs.declared.fault.Fault.{Fault}
use Rattle.cl_meaning.specs.declared.fault.Fault.TheVariants as faults
use Rattle.cl_meaning.specs.declared.kind.Role.{Role}
use Rattle.cl_meaning.specs.Environment.{Env, Signature}
use Rattle.cl_meaning.specs.Kinds.{Callee, defined, undefined, known, callee_of}
use Rattle.cl_meaning.specs.Declarations.{form_of, word_of, signature_in}
use Rattle.cl_meaning.specs.Visible.{Node, Before, is_front, role_of, inside, later, behind, kind_of, visible_at}
use Rattle.cl_meaning.specs.Visible.{in_order, parts_in_order}
use Rattle.cl_meaning.specs.Faults.{Asked, Call, Looked, AllSound, at_fault, looked, given, leads_back}
use Rattle.cl_meaning.specs.Faults.{leads_from, recursion, prototype_match, prototype_misfits, no_such_kernel}
use Rattle.cl_meaning.specs.Faults.{signature_of, defines_kernel, is_called, call_in, call_at, calls_of}
use Rattle.cl_meaning.specs.Faults.{missing_in, missing_at, missing_of}
use Rattle.cl_check_sound.specs.Sound.{Listed, ListedAt, SoundTree, SoundParts}
use Rattle.cl_check_sound.proofs.Collected.{NotBack}
use Rattle.cl_short_vec_faults.specs.SoundBut.{SoundAt, SoundBut, AllSoundBut}

-- ---- from a tree to its nodes

abbrev pub ButNode : Asked → Node → Type 0
ButNode asked n = SoundAt asked n × Listed asked n

mutual
  unfolding in_order

  pub but_nodes : (asked : Asked) (env : Env) (role : Role) (t : Syntax) (rest : List Node) →
      SoundBut asked env role t → Each (ButNode asked) rest → Each (ButNode asked) (in_order env role t rest)
  but_nodes asked env role (node form w f l parts) rest s h =
      but_parts asked (inside env form w) form None parts (record {
        visible = env;
        role = role;
        tree = node form w f l parts;
      } ∷ rest) s.0 (s.1, h)

  pub but_parts : (asked : Asked) (env : Env) (form : Form) (b : Before) (parts : Forest) (rest : List Node) →
      AllSoundBut asked env form b parts → Each (ButNode asked) rest →
      Each (ButNode asked) (parts_in_order env form b parts rest)
  but_parts asked env form b none rest s h = h
  but_parts asked env form b (more p ps) rest s h =
      let next = later (behind env p) form (is_front b) p (kind_of env p) in
      but_nodes asked env (role_of form b p) p (parts_in_order next form (Some (last_of p)) ps rest) s.0
      (but_parts asked next form (Some (last_of p)) ps rest s.1 h)

-- a tree in which no node is at fault is one in which none is but perhaps by a size
mutual
  pub weaker : (asked : Asked) (env : Env) (role : Role) (t : Syntax) → SoundTree asked env role t →
      SoundBut asked env role t
  weaker asked env role (node form w f l parts) s =
      (weaker_parts asked (inside env form w) form None parts s.0, ((λ k e. s.1.0 k), s.1.1))

  pub weaker_parts : (asked : Asked) (env : Env) (form : Form) (b : Before) (parts : Forest) →
      SoundParts asked env form b parts → AllSoundBut asked env form b parts
  weaker_parts asked env form b none s = tt
  weaker_parts asked env form b (more p ps) s = (
    weaker asked env (role_of form b p) p s.0,
    weaker_parts asked (later (behind env p) form (is_front b) p (kind_of env p)) form (Some (last_of p)) ps s.1,
  )

pub each_of : {A : Type 0} (P : A → Type 0) (xs : List A) (x : A) → Each P xs → IsOneOf xs x → P x
each_of P [] x h i = absurd i
each_of P (y ∷ ys) x h (inl e) = subst P e h.0
each_of P (y ∷ ys) x h (inr i) = each_of P ys x h.1 i

each_split : {A : Type 0} (P : A → Type 0) (xs ys : List A) → Each P (xs ++ ys) → Each P xs × Each P ys
each_split P [] ys h = (tt, h)
each_split P (x ∷ xs) ys h = let r = each_split P xs ys h.1 in ((h.0, r.0), r.1)

-- ---- what depends on the calls and on the names without a definition

abbrev pub with_calls : Asked → List Call → Asked
with_calls asked cs = record asked { calls = cs }

abbrev same_called : Asked → Asked → Type 0
same_called a b = (a.kernel ≡ b.kernel) × ((q : List ℕ) → is_called a.missing q ≡ false → is_called b.missing q ≡ false)

misfits_kept : (a b : Asked) → same_called a b → (p : Signature) (o : Option Signature) →
    prototype_misfits a p o ≡ false → prototype_misfits b p o ≡ false
misfits_kept a b s p None h = s.1 p.name h
misfits_kept a b s p (Some g) h = h

match_kept : (a b : Asked) → same_called a b → (n : Looked) (form : Form) → prototype_match a n form ≡ false →
    prototype_match b n form ≡ false
match_kept a b s n forms.PrototypeNode h =
    misfits_kept a b s (signature_in n.word n.parts) (signature_of (name_in n.word) n.env.functions) h
match_kept a b s n _ h = refl

kernel_kept : (a b : Asked) → same_called a b → (n : Looked) (form : Form) → no_such_kernel a n form ≡ false →
    no_such_kernel b n form ≡ false
kernel_kept a b s n forms.UnitNode h = subst (λ z. not (defines_kernel z n.env.functions) ≡ false) s.0 h
kernel_kept a b s n _ h = refl

-- all faults but recursion
other_kept : (a b : Asked) → same_called a b → (n : Looked) →
    (recursion a n n.form ≡ false → recursion b n n.form ≡ false) → (k : Fault) → at_fault a n k ≡ false →
    at_fault b n k ≡ false
other_kept a b s n r faults.Recursion h = r h
other_kept a b s n r faults.PrototypeMatch h = match_kept a b s n n.form h
other_kept a b s n r faults.NoSuchKernel h = kernel_kept a b s n n.form h
other_kept a b s n r faults.UnknownName h = h
other_kept a b s n r faults.DeclaredTwice h = h
other_kept a b s n r faults.OperandTypes h = h
other_kept a b s n r faults.ArgumentCount h = h
other_kept a b s n r faults.ArgumentType h = h
other_kept a b s n r faults.NotAssignable h = h
other_kept a b s n r faults.ConstantWritten h = h
other_kept a b s n r faults.OutsideType h = h
other_kept a b s n r faults.LocalMisplaced h = h
other_kept a b s n r faults.ProgramVariable h = h
other_kept a b s n r faults.KernelSignature h = h
other_kept a b s n r faults.PointerRoot h = h
other_kept a b s n r faults.ArrayLength h = h
other_kept a b s n r faults.Misplaced h = h
other_kept a b s n r faults.CaseValue h = h
other_kept a b s n r faults.ReturnFit h = h
other_kept a b s n r faults.BarrierFlags h = h
other_kept a b s n r faults.KernelTooLarge h = h
other_kept a b s n r faults.PrivateMemory h = h
other_kept a b s n r faults.BarriersTooDeep h = h
other_kept a b s n r faults.LocalMemory h = h

-- ---- recursion, by the calls of a node

call_ends : (cs : List Call) (env : Env) (o : Option Callee) → Each (NotBack cs) (call_in env o) →
    given o (leads_from cs env.owner.number) ≡ false
call_ends cs env (Some (defined n g)) h = h.0
call_ends cs env (Some undefined) h = refl
call_ends cs env (Some (known i)) h = refl
call_ends cs env None h = refl

ends_call : (cs : List Call) (env : Env) (o : Option Callee) → given o (leads_from cs env.owner.number) ≡ false →
    Each (NotBack cs) (call_in env o)
ends_call cs env (Some (defined n g)) h = (h, tt)
ends_call cs env (Some undefined) h = tt
ends_call cs env (Some (known i)) h = tt
ends_call cs env None h = tt

abbrev called_at : Node → List Call
called_at n = call_at n (form_of n.tree) (word_of n.tree)

node_ends : (asked : Asked) (env : Env) (role : Role) (form : Form) (w : List ℕ) (f l : ℕ) (parts : Forest) →
    Each (NotBack asked.calls) (call_at (record { visible = env; role = role; tree = node form w f l parts }) form w) →
    recursion asked (looked (record { visible = env; role = role; tree = node form w f l parts })) form ≡ false
node_ends asked env role forms.CallNode w f l parts h =
    let v = visible_at env (node forms.CallNode w f l parts) in
    call_ends asked.calls v (callee_of v (name_in w)) h
node_ends asked env role _ w f l parts h = refl

ends_node : (asked : Asked) (env : Env) (role : Role) (form : Form) (w : List ℕ) (f l : ℕ) (parts : Forest) →
    recursion asked (looked (record { visible = env; role = role; tree = node form w f l parts })) form ≡ false →
    Each (NotBack asked.calls) (call_at (record { visible = env; role = role; tree = node form w f l parts }) form w)
ends_node asked env role forms.CallNode w f l parts h =
    let v = visible_at env (node forms.CallNode w f l parts) in
    ends_call asked.calls v (callee_of v (name_in w)) h
ends_node asked env role _ w f l parts h = tt

no_recursion : (asked : Asked) (n : Node) → Each (NotBack asked.calls) (called_at n) →
    recursion asked (looked n) (looked n).form ≡ false
no_recursion asked n h = by n.visible n.role n.tree h
  where
    by : (env : Env) (role : Role) (t : Syntax) →
        Each (NotBack asked.calls) (called_at (record { visible = env; role = role; tree = t })) →
        recursion asked (looked (record { visible = env; role = role; tree = t }))
        (looked (record { visible = env; role = role; tree = t })).form ≡ false
    by env role (node form w f l parts) h = node_ends asked env role form w f l parts h

recursion_not : (asked : Asked) (n : Node) → recursion asked (looked n) (looked n).form ≡ false →
    Each (NotBack asked.calls) (called_at n)
recursion_not asked n h = by n.visible n.role n.tree h
  where
    by : (env : Env) (role : Role) (t : Syntax) → recursion asked (looked (record {
      visible = env;
      role = role;
      tree = t;
    })) (looked (record { visible = env; role = role; tree = t })).form ≡ false →
        Each (NotBack asked.calls) (called_at (record { visible = env; role = role; tree = t }))
    by env role (node form w f l parts) h = ends_node asked env role form w f l parts h

-- ---- nodes that are judged by other calls

pub judged_again : (asked : Asked) (cs : List Call) (ns : List Node) → AllSound asked ns →
    Each (NotBack cs) (calls_of ns) → AllSound (with_calls asked cs) ns
judged_again asked cs [] s h = tt
judged_again asked cs (n ∷ ns) s h =
    let r = each_split (NotBack cs) (called_at n) (calls_of ns) h in (
      λ k. other_kept asked (with_calls asked cs) (refl, λ q e. e) (looked n)
          (λ e. no_recursion (with_calls asked cs) n r.0) k (s.0 k),
      judged_again asked cs ns s.1 r.1,
    )

-- no call of the nodes leads back
each_joined : {A : Type 0} (P : A → Type 0) (xs ys : List A) → Each P xs → Each P ys → Each P (xs ++ ys)
each_joined P [] ys h k = k
each_joined P (x ∷ xs) ys h k = (h.0, each_joined P xs ys h.1 k)

pub but_back : (asked : Asked) (ns : List Node) → Each (ButNode asked) ns → Each (NotBack asked.calls) (calls_of ns)
but_back asked [] h = tt
but_back asked (n ∷ ns) h = each_joined (NotBack asked.calls) (called_at n) (calls_of ns)
    (recursion_not asked n (h.0.0 faults.Recursion refl)) (but_back asked ns h.1)

-- ---- names without a definition

bytes_same : (q : List ℕ) → bytes_eq q q ≡ true
bytes_same q = (bytes_eq-Decides q q).1 refl

called_either : (xs ys : List (List ℕ)) (q : List ℕ) → is_called (xs ++ ys) q ≡ true →
    (is_called xs q ≡ true) ⊎ (is_called ys q ≡ true)
called_either [] ys q h = inr h
called_either (x ∷ xs) ys q h = by (bytes_eq x q) h (λ k. called_either xs ys q k)
  where
    by : (b : Bool) → (b || is_called (xs ++ ys) q) ≡ true →
        (is_called (xs ++ ys) q ≡ true → (is_called xs q ≡ true) ⊎ (is_called ys q ≡ true)) →
        ((b || is_called xs q) ≡ true) ⊎ (is_called ys q ≡ true)
    by true h g = inl refl
    by false h g = g h

missing_callee : (asked : Asked) (env : Env) (name : List ℕ) (o : Option Callee) →
    (o ≡ Some undefined → is_called asked.missing name ≡ true) → (q : List ℕ) →
    is_called (missing_in name o) q ≡ true → is_called asked.missing q ≡ true
missing_callee asked env name (Some undefined) g q h = by (bytes_eq name q) refl h
  where
    by : (b : Bool) → bytes_eq name q ≡ b → (b || false) ≡ true → is_called asked.missing q ≡ true
    by true e h = subst (λ z. is_called asked.missing z ≡ true) ((bytes_eq-Decides name q).0 e) (g refl)
    by false e h = absurd (false≢true h)
missing_callee asked env name (Some (defined n x)) g q h = absurd (false≢true h)
missing_callee asked env name (Some (known i)) g q h = absurd (false≢true h)
missing_callee asked env name None g q h = absurd (false≢true h)

missing_node : (asked : Asked) (n : Node) (form : Form) (w : List ℕ) →
    ListedAt asked (visible_at n.visible n.tree) form w → (q : List ℕ) → is_called (missing_at n form w) q ≡ true →
    is_called asked.missing q ≡ true
missing_node asked n forms.CallNode w g q h =
    let v = visible_at n.visible n.tree in missing_callee asked v (name_in w) (callee_of v (name_in w)) g q h
missing_node asked n _ w g q h = absurd (false≢true h)

-- what the nodes call without a definition is listed
pub but_missing : (asked : Asked) (ns : List Node) → Each (ButNode asked) ns → (q : List ℕ) →
    is_called (missing_of ns) q ≡ true → is_called asked.missing q ≡ true
but_missing asked [] h q e = absurd (false≢true e)
but_missing asked (n ∷ ns) h q e =
    by (called_either (missing_at n (form_of n.tree) (word_of n.tree)) (missing_of ns) q e)
    (λ k. but_missing asked ns h.1 q k)
  where
    by : (is_called (missing_at n (form_of n.tree) (word_of n.tree)) q ≡ true) ⊎
        (is_called (missing_of ns) q ≡ true) → (is_called (missing_of ns) q ≡ true → is_called asked.missing q ≡ true) →
        is_called asked.missing q ≡ true
    by (inl k) g = missing_node asked n (form_of n.tree) (word_of n.tree) h.0.1 q k
    by (inr k) g = g k

-- ---- judged by fewer calls and names

leads_kept : (a b : Asked) → ((to from : ℕ) → leads_back b.calls from to ≡ true → leads_back a.calls from to ≡ true) →
    (to : ℕ) (o : Option Callee) → given o (leads_from a.calls to) ≡ false → given o (leads_from b.calls to) ≡ false
leads_kept a b g to (Some (defined n x)) h = by (leads_back b.calls n to) refl
  where
    by : (c : Bool) → leads_back b.calls n to ≡ c → c ≡ false
    by true e = absurd (false≢true (sym h ∙ g to n e))
    by false e = refl
leads_kept a b g to (Some undefined) h = refl
leads_kept a b g to (Some (known i)) h = refl
leads_kept a b g to None h = refl

recursion_kept : (a b : Asked) →
    ((to from : ℕ) → leads_back b.calls from to ≡ true → leads_back a.calls from to ≡ true) → (n : Looked)
    (form : Form) → recursion a n form ≡ false → recursion b n form ≡ false
recursion_kept a b g n forms.CallNode h =
    leads_kept a b g n.env.owner.number (callee_of n.env (name_in n.word)) h
recursion_kept a b g n _ h = refl

-- a fault that does not stand by some calls and names does not stand by fewer
pub fault_kept : (a b : Asked) → a.kernel ≡ b.kernel →
    ((to from : ℕ) → leads_back b.calls from to ≡ true → leads_back a.calls from to ≡ true) →
    ((q : List ℕ) → is_called b.missing q ≡ true → is_called a.missing q ≡ true) → (n : Looked) (k : Fault) →
    at_fault a n k ≡ false → at_fault b n k ≡ false
fault_kept a b e g m n k h =
    other_kept a b (e, λ q i. by q i (is_called b.missing q) refl) n (recursion_kept a b g n n.form) k h
  where
    by : (q : List ℕ) → is_called a.missing q ≡ false → (c : Bool) → is_called b.missing q ≡ c → c ≡ false
    by q i true f = absurd (false≢true (sym i ∙ m q f))
    by q i false f = refl
