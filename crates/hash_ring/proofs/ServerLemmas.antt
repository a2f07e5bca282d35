-- The servers of destinations, and what is taken if marks agree.
use Rattle.std.proofs.Common.{◌≡◌, ℕ, ◌+◌, ◌<◌, Bool, true, cond, not, eqb, ltb, List, [], ◌∷◌, ◌++◌, map, get_or, take, length, Some, None, refl, sym, ap, ◌∙◌, arith, inl, inr, length-append}
use Rattle.std.specs.Option.{unwrap_or}
use Rattle.std.specs.List.{position, position_or_len}
use Rattle.std.specs.Str.{bytes_eq}
use Rattle.std.proofs.lemmas.Bool.{and_parts, ltb-true, lt-ltb, cases_lt, false≢true}
use Rattle.std.proofs.lemmas.List.{get_or-map, get_or_append_left, length-map, map_more}
use Rattle.std.proofs.lemmas.List.Sums.{fails_before_first, passes_at_first, position_or_len_is}
use Rattle.std.proofs.lemmas.Slice.Eq.{bytes_eq-Decides}
use Rattle.conf_text.specs.Destination.{Destination}
use Rattle.relay_base.specs.declared.dest_id.DestId.{DestId}
use Rattle.relay_base.specs.DestIds.{are_below}
use Rattle.hash_ring.specs.Entry.{node_of}
use Rattle.hash_ring.specs.Placing.{entries_of}
use Rattle.hash_ring.specs.Servers.{server_of, server_number, servers_of}
use Rattle.hash_ring.specs.Walk.{taken_by}
use Rattle.hash_ring.specs.Laws.{ServersAreHosts}
use Rattle.hash_ring.proofs.TakenLemmas.{same_mark, others}
use Rattle.hash_ring.proofs.BelowLemmas.{below-taken, entries_below}

-- ---- marks that agree

others_agree : (mark other : DestId → ℕ) (count : ℕ) → ((m : DestId) → m.0 < count → mark m ≡ other m) → (n : DestId) → mark n ≡ other n → (ns : List DestId) → are_below count ns ≡ true
    → others mark n ns ≡ others other n ns
others_agree mark other count agree n here [] below = refl
others_agree mark other count agree n here (m ∷ ms) below =
    let both = and_parts (ltb (m.0) count) (are_below count ms) below in
    let rest : others mark n ms ≡ others other n ms = others_agree mark other count agree n here ms both.1 in
    let test : same_mark mark n m ≡ same_mark other n m = ap (λ a. eqb a (mark m)) here ∙ ap (λ a. eqb (other n) a) (agree m (ltb-true (m.0) count both.0)) in
    ap (λ b. cond (not b) (m ∷ others mark n ms) (others mark n ms)) test ∙ ap (λ l. cond (not (same_mark other n m)) (m ∷ l) l) rest

-- marks that agree on the nodes take the same
pub taken_agrees : (mark other : DestId → ℕ) (count : ℕ) → ((m : DestId) → m.0 < count → mark m ≡ other m) → (ns : List DestId) → are_below count ns ≡ true → taken_by mark ns ≡ taken_by other ns
taken_agrees mark other count agree [] below = refl
taken_agrees mark other count agree (n ∷ ns) below =
    let both = and_parts (ltb (n.0) count) (are_below count ns) below in
    ap (λ l. n ∷ others mark n l) (taken_agrees mark other count agree ns both.1)
    ∙ ap (λ l. n ∷ l) (others_agree mark other count agree n (agree n (ltb-true (n.0) count both.0)) (taken_by other ns) (below-taken other count ns both.1))

-- ---- the first index of a host

passes_within : {X : Type 0} (p : X → Bool) (xs : List X) (i : ℕ) (d : X) → i < length xs → p (get_or xs i d) ≡ true → position_or_len p xs < length xs
passes_within p xs i d within passes = elim (cases_lt (position_or_len p xs) (length xs)) [
  | inl less ↦ less
  | inr more ↦ absurd (false≢true (sym (fails_before_first p xs i d (omega arith)) ∙ passes))
]

position-append : {X : Type 0} (p : X → Bool) (xs ys : List X) (d : X) → position_or_len p xs < length xs → position_or_len p (xs ++ ys) ≡ position_or_len p xs
position-append p xs ys d within =
    let i = position_or_len p xs in
    position_or_len_is p (xs ++ ys) i d (omega (arith, length-append xs ys))
    (λ k less. ap p (get_or_append_left xs ys d k (omega arith)) ∙ fails_before_first p xs k d less)
    (λ _. ap p (get_or_append_left xs ys d i within) ∙ passes_at_first p xs d within)

-- whether a destination has a host
abbrev has_host : List ℕ → Destination → Bool
has_host host d = bytes_eq d.host host

has_own : (ds : List Destination) (i : ℕ) (d : Destination) → has_host ((get_or ds i d).host) (get_or ds i d) ≡ true
has_own ds i d = (bytes_eq-Decides ((get_or ds i d).host) ((get_or ds i d).host)).1 refl

number_at : (ds : List Destination) (i : ℕ) (d : Destination) → i < length ds → server_of (servers_of ds) (record { 0 = i }) ≡ server_number ds (get_or ds i d)
number_at ds i d within = get_or-map (server_number ds) ds i d 0 within

own_within : (ds : List Destination) (i : ℕ) (d : Destination) → i < length ds → position_or_len (has_host ((get_or ds i d).host)) ds < length ds
own_within ds i d within = passes_within (has_host ((get_or ds i d).host)) ds i d within (has_own ds i d)

number_is : (ds : List Destination) (host : List ℕ) (d : Destination) → d.host ≡ host → position_or_len (has_host host) ds < length ds → server_number ds d ≡ position_or_len (has_host host) ds
number_is ds host d same within =
    ap (λ h. unwrap_or (position (has_host h) ds) (length ds)) same
    ∙ ap (λ b. unwrap_or (cond b (Some (position_or_len (has_host host) ds)) None) (length ds)) (lt-ltb (position_or_len (has_host host) ds) (length ds) within)

own_number : (ds : List Destination) (i : ℕ) (d : Destination) → i < length ds → server_number ds (get_or ds i d) ≡ position_or_len (has_host ((get_or ds i d).host)) ds
own_number ds i d within = number_is ds ((get_or ds i d).host) (get_or ds i d) refl (own_within ds i d within)

-- the destination at a number has the host that it numbers
host_at : (ds : List Destination) (i : ℕ) (d : Destination) → i < length ds → (get_or ds (server_number ds (get_or ds i d)) d).host ≡ (get_or ds i d).host
host_at ds i d within =
    let host = (get_or ds i d).host in
    let first = position_or_len (has_host host) ds in
    ap (λ k. (get_or ds k d).host) (own_number ds i d within)
    ∙ (bytes_eq-Decides ((get_or ds first d).host) host).0 (passes_at_first (has_host host) ds d (own_within ds i d within))

pub servers_hosts : ServersAreHosts
servers_hosts = λ ds i j d left right.
    let first = number_at ds i d left in
    let second = number_at ds j d right in (
      λ same.
          let numbers : server_number ds (get_or ds i d) ≡ server_number ds (get_or ds j d) = sym first ∙ same ∙ second in
          sym (host_at ds i d left) ∙ ap (λ k. (get_or ds k d).host) numbers ∙ host_at ds j d right,
      λ same. first ∙ ap (λ host. unwrap_or (position (has_host host) ds) (length ds)) same ∙ sym second,
    )

-- a destination at the end changes no server of those before it
pub servers-push : (ds : List Destination) (d : Destination) (i : ℕ) → i < length ds → get_or (servers_of (ds ++ d ∷ [])) i 0 ≡ get_or (servers_of ds) i 0
servers-push ds d i less =
    let grown = ds ++ d ∷ [] in
    let x = get_or ds i d in
    let kept : position_or_len (has_host (x.host)) grown ≡ position_or_len (has_host (x.host)) ds = position-append (has_host (x.host)) ds (d ∷ []) d (own_within ds i d less) in
    number_at grown i d (omega (arith, length-append ds (d ∷ [])))
    ∙ ap (server_number grown) (get_or_append_left ds (d ∷ []) d i less)
    ∙ number_is grown (x.host) x refl (let within = own_within ds i d less in omega (arith, kept, length-append ds (d ∷ [])))
    ∙ kept
    ∙ sym (own_number ds i d less)
    ∙ sym (number_at ds i d less)

-- the numbers of the first servers and of one more
pub numbers_more : (ds : List Destination) (i : ℕ) (d : Destination) (old new : List ℕ) (n : ℕ) → i < length ds → d ≡ get_or ds i d → n ≡ server_number ds d
    → old ≡ map (server_number ds) (take i ds) → new ≡ old ++ n ∷ [] → new ≡ map (server_number ds) (take (i + 1) ds)
numbers_more ds i d old new n within is number before pushed =
    let last : n ≡ server_number ds (get_or ds i d) = number ∙ ap (server_number ds) is in
    let all : old ++ n ∷ [] ≡ map (server_number ds) (take i ds) ++ server_number ds (get_or ds i d) ∷ [] =
    ap (λ (l : List ℕ). l ++ n ∷ []) before ∙ ap (λ (m : ℕ). map (server_number ds) (take i ds) ++ m ∷ []) last in
    pushed ∙ all ∙ sym (map_more (server_number ds) ds i d within)

pub length-servers_of : (ds : List Destination) → length (servers_of ds) ≡ length ds
length-servers_of ds = length-map ds (server_number ds)

-- the nodes of destinations have servers
pub on_servers : (ds : List Destination) → are_below (length (servers_of ds)) (map node_of (entries_of ds)) ≡ true
on_servers ds = ap (λ n. are_below n (map node_of (entries_of ds))) (length-servers_of ds) ∙ entries_below ds
