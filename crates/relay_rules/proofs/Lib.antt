mod DefaultRule
mod FirstMentions
mod Following
mod Mentions
mod Places
mod Readings
mod Routes
