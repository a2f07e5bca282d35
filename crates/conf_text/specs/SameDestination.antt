-- When destinations are the same, and when they are one node.
use Rattle.std.specs.Prelude.{◌≡◌, ℕ, Bool, true, false, ◌&&◌, ◌==◌, List, Option, Some, None, refl}
use Rattle.std.specs.Bool.{Decides}
use Rattle.std.specs.Cmp.{IsEquivalence, IsPartialEquivalence, partial_equiv_from_equiv}
use Rattle.std.specs.Str.{bytes_eq}
use Rattle.std.proofs.Common.{sym, ap, subst}
use Rattle.std.proofs.lemmas.Bool.{and_parts, and_from, eqb-true}
use Rattle.std.proofs.lemmas.Bool.Decides.{Decides-eqb, same_from_decides}
use Rattle.std.proofs.lemmas.Slice.Eq.{bytes_eq-Decides}
use Rattle.conf_text.specs.Destination.{Destination}

-- both name no instance, or the same one
abbrev pub same_instance : Option (List ℕ) → Option (List ℕ) → Bool
same_instance None None = true
same_instance None (Some b) = false
same_instance (Some a) None = false
same_instance (Some a) (Some b) = bytes_eq a b

-- a node is a host with its instance
abbrev pub same_node : Destination → Destination → Bool
same_node a b = bytes_eq a.host b.host && same_instance a.instance b.instance

-- equal in host, port and instance
abbrev pub same_destination : Destination → Destination → Bool
same_destination a b = same_node a b && a.port == b.port

same_instance-is : (a b : Option (List ℕ)) → same_instance a b ≡ true → a ≡ b
same_instance-is None None h = refl
same_instance-is None (Some b) h = absurd cc
same_instance-is (Some a) None h = absurd cc
same_instance-is (Some a) (Some b) h = ap (λ (t : List ℕ). Some t) ((bytes_eq-Decides a b).0 h)

same_instance-self : (a : Option (List ℕ)) → same_instance a a ≡ true
same_instance-self None = refl
same_instance-self (Some a) = (bytes_eq-Decides a a).1 refl

same_destination-is : (a b : Destination) → same_destination a b ≡ true → a ≡ b
same_destination-is a b h =
    let both = and_parts (same_node a b) (a.port == b.port) h in
    let node = and_parts (bytes_eq a.host b.host) (same_instance a.instance b.instance) both.0 in
    let host = (bytes_eq-Decides a.host b.host).0 node.0 in
    let instance = same_instance-is a.instance b.instance node.1 in
    let port = eqb-true a.port b.port both.1 in
    λ i. record { host = host i; port = port i; instance = instance i }

same_destination-self : (a : Destination) → same_destination a a ≡ true
same_destination-self a =
    let host = (bytes_eq-Decides a.host a.host).1 refl in
    let instance = same_instance-self a.instance in
    let node =
    and_from (bytes_eq a.host a.host) (same_instance a.instance a.instance) host instance in
    and_from (same_node a a) (a.port == a.port) node ((Decides-eqb a.port a.port).1 refl)

pub same_destination-Decides : (a b : Destination) → Decides (same_destination a b) (a ≡ b)
same_destination-Decides a b = (
  same_destination-is a b,
  λ e. subst (λ (d : Destination). same_destination a d ≡ true) e (same_destination-self a),
)

pub same_destination-equivalence : IsEquivalence same_destination
same_destination-equivalence = record {
  refl = same_destination-self;
  symm = λ a b.
      let decides = same_destination-Decides a b in
      let back = same_destination-Decides b a in
      same_from_decides (same_destination a b) (same_destination b a) decides
      (record { 0 = λ h. sym (back.0 h); 1 = λ e. back.1 (sym e) });
  congr = λ a b c h. ap (λ (d : Destination). same_destination d c) (same_destination-is a b h);
}

pub same_destination-laws : IsPartialEquivalence same_destination
same_destination-laws = partial_equiv_from_equiv same_destination-equivalence
