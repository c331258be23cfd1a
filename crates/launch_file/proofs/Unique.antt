-- A launch file says one thing, or is refused.
use Rattle.std.proofs.Common.{◌≡◌, ℕ, pos, Bool, List, Option, Some, None, inl, inr, sym, ◌∙◌, subst, arith}
use Rattle.toml.specs.Data.{Members}
use Rattle.cl_prep.specs.declared.prep.Define.{Define}
use Rattle.launch_file.specs.declared.text.BufferText.{BufferText}
use Rattle.launch_file.specs.declared.refusal.Refusal.{Refusal}
use Rattle.launch_file.specs.Values.{Values}
use Rattle.launch_file.specs.Texts.{Text, Part}
use Rattle.launch_file.specs.Refusals.{IsNoDocument, IsDocument, Says, IsRead, Reads, IsRefused, no_document}
use Rattle.launch_file.specs.Refusals.{in_document, refusal_of}

-- a text by its parts
same_text : (d d' : List Define) (n n' m m' : ℕ) (b b' : List BufferText) (v v' : Bool) (p p' : List Part) → d ≡ d' →
    n ≡ n' → m ≡ m' → b ≡ b' → v ≡ v' →
    p ≡ p' → ◌≡◌ {A = Text} (record { defines = d; lanes = n; turns = m; buffers = b; several = v; list = p })
    (record { defines = d'; lanes = n'; turns = m'; buffers = b'; several = v'; list = p' })
same_text d d' n n' m m' b b' v v' p p' e1 e2 e3 e4 e5 e6 = cc

-- values and options say one text
one_saying : (lanes turns : Option ℕ) (values others : Values) (a b : Text) → values ≡ others →
    Says lanes turns values a → Says lanes turns others b → a ≡ b
one_saying lanes turns values others a b same x y =
    let z : Says lanes turns values b = subst (λ (v : Values). Says lanes turns v b) (sym same) y in
    let n : pos a.lanes ≡ pos b.lanes = x.same_lanes ∙ sym z.same_lanes in
    let m : pos a.turns ≡ pos b.turns = x.same_turns ∙ sym z.same_turns in
    let n_is : a.lanes ≡ b.lanes = cc n in
    let m_is : a.turns ≡ b.turns = cc m in
    same_text a.defines b.defines a.lanes b.lanes a.turns b.turns a.buffers b.buffers a.several b.several a.list b.list
    (x.same_defines ∙ sym z.same_defines) n_is m_is (x.same_buffers ∙ sym z.same_buffers) (x.same_several ∙
    sym z.same_several) (x.same_list ∙ sym z.same_list)

-- bytes are one document
one_document : (bytes : List ℕ) (a b : Members) → IsDocument bytes a → IsDocument bytes b → a ≡ b
one_document bytes a b x y = cc (x.parsed, y.parsed)

-- members are read as one text
one_reading : (lanes turns : Option ℕ) (members : Members) (a b : Text) → IsRead members lanes turns a →
    IsRead members lanes turns b → a ≡ b
one_reading lanes turns ms a b x y =
    let values : x.values ≡ y.values = cc (x.are_its, y.are_its) in
    one_saying lanes turns x.values y.values a b values x.says y.says

-- bytes and options are read as one text
pub one_text : (bytes : List ℕ) (lanes turns : Option ℕ) (a b : Text) → Reads bytes lanes turns a →
    Reads bytes lanes turns b → a ≡ b
one_text bytes lanes turns a b x y =
    one_reading lanes turns x.members a b x.read (subst (λ (m : Members). IsRead m lanes turns b)
    (one_document bytes y.members x.members y.document x.document) y.read)

-- a document is no bytes that are none
no_both : (bytes : List ℕ) (members : Members) → IsNoDocument bytes → IsDocument bytes members → ⊥
no_both bytes members none is = elim none [
  | inl long ↦ let short = is.short in omega arith
  | inr more ↦ elim more [
    | inl other ↦ other is.utf8
    | inr unparsed ↦ let e : None ≡ Some members = sym unparsed ∙ is.parsed in let never : ⊥ = cc e in never
  ]
]

-- what is read is not refused
pub read_or_refused : (bytes : List ℕ) (lanes turns : Option ℕ) (text : Text) (first : Refusal) →
    Reads bytes lanes turns text → IsRefused bytes lanes turns first → ⊥
read_or_refused bytes lanes turns text _ read (no_document none) = no_both bytes read.members none read.document
read_or_refused bytes lanes turns text first read (in_document members _ is refused) =
    let same : members ≡ read.members = one_document bytes members read.members is read.document in
    let none : refusal_of members lanes turns ≡ None =
    subst (λ (m : Members). refusal_of m lanes turns ≡ None) (sym same) read.read.accepted in
    let e : Some first ≡ None = sym refused ∙ none in
    let never : ⊥ = cc e in never
