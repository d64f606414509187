-- The body of a range and of an edit: what its reading comes to, or out of memory.
use Rattle.std.proofs.Common.{◌≡◌, ◌⊎◌, ℕ, List, Option, Some, None, Result, Ok, Err, true, false, is_some, inl, inr, refl, ap, ◌∙◌}
use Rattle.ipam_data.specs.declared.replies.FieldName.{FieldName}
use Rattle.ipam_data.specs.declared.replies.Refusal.{Refusal}
use Rattle.ipam_data.specs.declared.replies.Refusal.TheVariants.{BadJson, Memory}
use Rattle.serde_json.specs.Data.{Data}
use Rattle.ipam_json.specs.Bodies.{IsObjectText, IsNoObjectText}
use Rattle.ipam_json.specs.Outcomes.{OrMemory, field, given, given_member}
use Rattle.pool_json.specs.declared.bodies.RequestRefusal.{RequestRefusal}
use Rattle.pool_json.specs.declared.bodies.RequestRefusal.TheVariants.{Common}
use Rattle.pool_json.specs.Bodies.{IsOfObject, OrWant, drafted}
use Rattle.pool_json.specs.Edits.{edit_by, or_common}

-- the name is refused
pub ill_named : (name : Result (List ℕ) Refusal) (first last : Option ℕ) (e : Refusal) → OrMemory (λ r. name ≡ r) (Err e) → OrWant (λ r. drafted name first last ≡ r) (Err (Common e))
ill_named name first last e (inl memory) = inl (ap Common memory)
ill_named name first last e (inr is) = inr (ap (λ (n : Result (List ℕ) Refusal). drafted n first last) is)

-- an object
pub of_object : {A : Type 0} (read : Data → Result A RequestRefusal) (body : List ℕ) (d : Data) (r : Result A RequestRefusal) → IsObjectText body d → OrWant (λ r. read d ≡ r) r → OrWant (IsOfObject read body) r
of_object read body d (Ok draft) h is = inl (d, h, is)
of_object read body d (Err e) h (inl memory) = inl memory
of_object read body d (Err e) h (inr is) = inr (inl (d, h, is))

-- no object
pub of_none : {A : Type 0} (read : Data → Result A RequestRefusal) (body : List ℕ) (e : Refusal) → (e ≡ Memory) ⊎ (IsNoObjectText body × (e ≡ BadJson)) → OrWant (IsOfObject read body) (Err (Common e))
of_none read body e (inl memory) = inl (ap Common memory)
of_none {A} read body e (inr h) = inr (inr (h.0, ap (λ (x : Refusal). let bad : Result A RequestRefusal = Err (Common x) in bad) h.1))

-- ---- edits

-- the name is refused
pub ill_renamed : (name : Result (Option (List ℕ)) Refusal) (first last : Result (Option ℕ) RequestRefusal) (e : Refusal) → OrMemory (λ r. name ≡ r) (Err e) → OrWant (λ r. edit_by name first last ≡ r) (Err (Common e))
ill_renamed name first last e (inl memory) = inl (ap Common memory)
ill_renamed name first last e (inr is) = inr (ap (λ (n : Result (Option (List ℕ)) Refusal). edit_by n first last) is)

-- a number is refused, behind a name that is not
pub ill_first : (name : Result (Option (List ℕ)) Refusal) (n : Option (List ℕ)) (first last : Result (Option ℕ) RequestRefusal) (e : RequestRefusal) → name ≡ Ok n → first ≡ Err e
    → OrWant (λ r. edit_by name first last ≡ r) (Err e)
ill_first name n first last e is f = inr (ap (λ (x : Result (Option (List ℕ)) Refusal). edit_by x first last) is ∙ ap (λ (x : Result (Option ℕ) RequestRefusal). edit_by (Ok n) x last) f)

pub ill_last : (name : Result (Option (List ℕ)) Refusal) (n : Option (List ℕ)) (first last : Result (Option ℕ) RequestRefusal) (m : Option ℕ) (e : RequestRefusal) → name ≡ Ok n → first ≡ Ok m → last ≡ Err e
    → OrWant (λ r. edit_by name first last ≡ r) (Err e)
ill_last name n first last m e is f l =
    inr (ap (λ (x : Result (Option (List ℕ)) Refusal). edit_by x first last) is ∙ ap (λ (x : Result (Option ℕ) RequestRefusal). edit_by (Ok n) x last) f
    ∙ ap (λ (x : Result (Option ℕ) RequestRefusal). edit_by (Ok n) (Ok m) x) l)

-- the name of a member is refused, or is not
pub of_name : (name : Result (Option (List ℕ)) Refusal) (e : Refusal) → OrMemory (λ r. name ≡ r) (Err e) → OrWant (λ r. or_common name ≡ r) (Err (Common e))
of_name name e (inl memory) = inl (ap Common memory)
of_name name e (inr is) = inr (ap or_common is)

-- a member that an edit need not have
pub none_given : {A : Type 0} (key : FieldName) (read : Option Data → Option A) (o : Option Data) → is_some o ≡ false → given_member key read o ≡ Ok None
none_given key read None e = refl
none_given key read (Some d) e = cc

pub is_given : {A : Type 0} (key : FieldName) (read : Option Data → Option A) (o : Option Data) (a : A) → is_some o ≡ true → field key (read o) ≡ Ok a → given_member key read o ≡ Ok (Some a)
is_given key read None a e f = cc
is_given key read (Some d) a e f = ap given f

pub ill_given : {A : Type 0} (key : FieldName) (read : Option Data → Option A) (o : Option Data) (why : Refusal) → is_some o ≡ true → OrMemory (λ r. field key (read o) ≡ r) (Err why)
    → OrMemory (λ r. given_member key read o ≡ r) (Err why)
ill_given key read None why e f = cc
ill_given key read (Some d) why e (inl memory) = inl memory
ill_given key read (Some d) why e (inr f) = inr (ap given f)
