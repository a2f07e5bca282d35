-- The answer to each request.
use Rattle.std.specs.Prelude.{ℕ, Bool, List, Option, None, Some, codes, if◌then◌else◌, ◌||◌}
use Rattle.std.specs.Str.{bytes_eq}
use Rattle.status_server.specs.declared.page.Page.{Page}
use Rattle.status_server.specs.declared.page.Page.TheVariants.{Html, Json, Metrics, Health}
use Rattle.status_server.specs.declared.route.Route.{Route}
use Rattle.status_server.specs.declared.route.Route.TheVariants as route

-- the page at a path
abbrev pub page_at : List ℕ → Option Page
page_at path =
    if bytes_eq path (codes "/") then Some Html
    else (if bytes_eq path (codes "/status.json") then Some Json
    else (if bytes_eq path (codes "/metrics") then Some Metrics
    else (if bytes_eq path (codes "/healthz") then Some Health
    else None)))

-- the methods that read and change nothing
abbrev pub is_reading : List ℕ → Bool
is_reading method = bytes_eq method (codes "GET") || bytes_eq method (codes "HEAD")

-- a page is only read
abbrev pub route_to : Option Page → List ℕ → Route
route_to None method = route.NotFound
route_to (Some page) method = if is_reading method then route.Page page else route.NotAllowed

-- the answer to a request of a method for a path: none of the pages if the request is for another host
abbrev pub route_of : (is_own : Bool) → (method path : List ℕ) → Route
route_of is_own method path = if is_own then route_to (page_at path) method else route.OtherHost
