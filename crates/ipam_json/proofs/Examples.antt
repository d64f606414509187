-- Small examples of the definitions, worked out by evaluation.
use Rattle.std.proofs.Common.{◌≡◌, [], ◌∷◌, ◌++◌, Some, None, Ok, Err, true, false, refl, codes, arith}
use Rattle.std.proofs.lemmas.Fmt.{decimal_digit}
use Rattle.inet_num.specs.declared.Family.TheVariants.{V4}
use Rattle.ipam_data.specs.declared.kinds.Kind.TheVariants.{Prefixes}
use Rattle.ipam_data.specs.declared.replies.FieldName.TheVariants.{Name, Vrf as VrfField}
use Rattle.ipam_data.specs.declared.replies.Refusal.TheVariants.{NotFound, Field}
use Rattle.ipam_data.specs.declared.replies.Reply.TheVariants.{Page, One, Refused}
use Rattle.ipam_data.specs.declared.replies.View.TheVariants.{Vrf as VrfView}
use Rattle.serde_json.specs.Data.{Data, object, number, unsigned, string, null, member, no_members}
use Rattle.serde_json.specs.Read.{read}
use Rattle.serde_json.proofs.OnLiterals.{serde_json_on_literals}
use Rattle.ipam_json.specs.declared.replies.Links.{Links}
use Rattle.ipam_json.specs.Members.{rd_of, flag_of, id_of, prefix_status_of}
use Rattle.ipam_json.specs.Vrfs.{vrf_draft}
use Rattle.ipam_json.specs.Prefixes.{prefix_draft}
use Rattle.ipam_json.specs.Values.{members}
use Rattle.ipam_json.specs.Replies.{reply_text}

abbrev no_links : Links
no_links = record { next = None; previous = None }

-- ---- texts of replies

empty_page : reply_text (Page 0 []) no_links ≡ codes "{\"count\":0,\"next\":null,\"previous\":null,\"results\":[]}"
unfolding serde_json_on_literals
empty_page = rw (decimal_digit 0 (omega arith)) refl

absent_row : reply_text (Refused (NotFound Prefixes 9)) no_links ≡ codes "{\"code\":\"not_found\",\"detail\":\"prefixes 9 is not there\"}"
unfolding serde_json_on_literals
absent_row = rw (decimal_digit 9 (omega arith)) refl

red_vrf : reply_text (One (VrfView (record { id = 1; name = codes "red"; rd = None; enforce_unique = true; description = [] }))) no_links
    ≡ codes "{\"description\":\"\",\"enforce_unique\":true,\"id\":1,\"name\":\"red\",\"rd\":null}"
unfolding serde_json_on_literals
red_vrf = rw (decimal_digit 1 (omega arith)) refl

-- a quote and a backslash are escaped, and text outside ASCII is not
escaped : reply_text (One (VrfView (record { id = 1; name = codes "a\"b\\"; rd = Some (195 ∷ 169 ∷ []); enforce_unique = false; description = [] }))) no_links
    ≡ codes "{\"description\":\"\",\"enforce_unique\":false,\"id\":1,\"name\":\"a\\\"b\\\\\",\"rd\":\"" ++ 195 ∷ 169 ∷ codes "\"}"
unfolding serde_json_on_literals
escaped = rw (decimal_digit 1 (omega arith)) refl

-- ---- bodies

body_is_read : read (codes "{\"prefix\":\"10.0.0.0/24\"}") ≡ Some (object (member (codes "prefix") (string (codes "10.0.0.0/24")) no_members))
unfolding serde_json_on_literals
body_is_read = refl

last_value_counts : read (codes "{\"b\":1,\"a\":2,\"b\":null}") ≡ Some (object (members ((codes "a", number (unsigned 2)) ∷ (codes "b", null) ∷ [])))
unfolding serde_json_on_literals
last_value_counts = refl

-- a number with a fraction or an exponent, `-0`, 0 and 2^32 are no ids; null is none
no_ids : (d : Data) → d ≡ null → id_of (Some d) ≡ Some None
no_ids d e = rw e refl

zero_is_no_id : id_of (Some (number (unsigned 0))) ≡ None
zero_is_no_id = refl

id_is_small : id_of (Some (number (unsigned 4294967296))) ≡ None
id_is_small = refl

last_id : id_of (Some (number (unsigned 4294967295))) ≡ Some (Some 4294967295)
last_id = refl

status_in_lower_case : prefix_status_of (Some (string (codes "Active"))) ≡ None
status_in_lower_case = refl

no_rd : rd_of (Some (string [])) ≡ Some None
no_rd = refl

null_is_no_flag : flag_of true (Some null) ≡ None
null_is_no_flag = refl

-- the first bad member in the order of the kind, and not of the text
name_first : vrf_draft (object (members ((codes "description", null) ∷ (codes "rd", number (unsigned 5)) ∷ []))) ≡ Err (Field Name)
name_first = refl

vrf_before_status : prefix_draft (Ok (record { family = V4; first = 0; len = 8 })) (object (members ((codes "status", null) ∷ (codes "vrf", number (unsigned 0)) ∷ []))) ≡ Err (Field VrfField)
vrf_before_status = refl
