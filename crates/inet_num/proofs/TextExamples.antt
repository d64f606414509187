-- Worked examples of faults and canonical texts.
use Rattle.std.proofs.Common.{◌≡◌, refl, codes}
use Rattle.std.specs.Net.Text.{hex, hex_groups_text}
use Rattle.inet_num.specs.declared.Family.TheVariants.{V6}
use Rattle.inet_num.specs.declared.text.TextFault.TheVariants.{Octet, Group, Shape}
use Rattle.inet_num.specs.Text.{canonical_text_of}
use Rattle.inet_num.specs.Fault.{address_fault_of}

two_elisions : address_fault_of (codes "1::2::3") ≡ Shape
two_elisions = refl

three_colons : address_fault_of (codes ":::") ≡ Shape
three_colons = refl

single_colon_first : address_fault_of (codes ":1::") ≡ Shape
single_colon_first = refl

single_colon_last : address_fault_of (codes "1::2:") ≡ Shape
single_colon_last = refl

seven_groups : address_fault_of (codes "1:2:3:4:5:6:7") ≡ Shape
seven_groups = refl

eight_groups_and_elision : address_fault_of (codes "1:2:3:4:5:6:7::8") ≡ Shape
eight_groups_and_elision = refl

quad_counts_twice : address_fault_of (codes "1:2:3:4:5:6:7:1.2.3.4") ≡ Shape
quad_counts_twice = refl

shape_before_group : address_fault_of (codes "g::1.2.3") ≡ Shape
shape_before_group = refl

long_group : address_fault_of (codes "12345::") ≡ Group
long_group = refl

zone : address_fault_of (codes "fe80::1%eth0") ≡ Group
zone = refl

quad_before_the_end : address_fault_of (codes "1.2.3.4::") ≡ Group
quad_before_the_end = refl

octet_of_a_quad : address_fault_of (codes "::1.2.3.256") ≡ Octet
octet_of_a_quad = refl

group_left_of_octet : address_fault_of (codes "::g:1.2.3.256") ≡ Group
group_left_of_octet = refl

three_parts : address_fault_of (codes "10.0.0") ≡ Shape
three_parts = refl

leading_zero : address_fault_of (codes "010.0.0.1") ≡ Octet
leading_zero = refl

longest_run : canonical_text_of V6 0x0001_0000_0000_0002_0000_0000_0000_0003 ≡ codes "1:0:0:2::3"
unfolding hex_groups_text hex
longest_run = refl

first_of_two_runs : canonical_text_of V6 0x2001_0db8_0000_0000_0001_0000_0000_0001 ≡ codes "2001:db8::1:0:0:1"
unfolding hex_groups_text hex
first_of_two_runs = refl

single_zero : canonical_text_of V6 0x0001_0000_0002_0003_0004_0005_0006_0007 ≡ codes "1:0:2:3:4:5:6:7"
unfolding hex_groups_text hex
single_zero = refl

no_dotted_tail : canonical_text_of V6 0xffff_c000_0201 ≡ codes "::ffff:c000:201"
unfolding hex_groups_text hex
no_dotted_tail = refl
